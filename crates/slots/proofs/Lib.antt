pub mod Cases
pub mod Finding
pub mod Lengths
pub mod Peel
pub mod Places
pub mod Steps
