pub mod Completed
pub mod Taking
pub mod Turns
