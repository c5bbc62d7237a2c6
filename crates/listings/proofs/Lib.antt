pub mod Filling
pub mod Listed
pub mod Outputs
pub mod Places
