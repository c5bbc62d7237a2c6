pub mod Model
pub mod Rows
