pub mod Adding
pub mod Calls
pub mod Covering
pub mod Gaining
pub mod Told
