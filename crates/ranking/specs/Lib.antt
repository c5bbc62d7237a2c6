pub mod Means
pub mod Ranked
