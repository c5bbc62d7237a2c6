pub mod Entries
pub mod Refilled
pub mod Replayed
