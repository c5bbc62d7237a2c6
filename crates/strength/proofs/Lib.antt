pub mod Strong
pub mod Weakest
