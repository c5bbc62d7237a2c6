pub mod Stored
pub mod Storing
