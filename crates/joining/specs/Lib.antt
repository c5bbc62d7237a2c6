pub mod Entries
pub mod Model
