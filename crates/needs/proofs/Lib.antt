pub mod Counting
pub mod Told
