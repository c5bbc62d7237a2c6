pub mod Calls
pub mod Pairs
pub mod Prefixes
