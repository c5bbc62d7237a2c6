pub mod Outputs
pub mod Script
