pub mod InBytes
pub mod Moving
pub mod Numbers
