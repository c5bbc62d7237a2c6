pub mod Model
pub mod Numbers
