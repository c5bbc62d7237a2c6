pub mod Examples
pub mod Kept
pub mod Laws
pub mod Places
pub mod Sorted
