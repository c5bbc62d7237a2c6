pub mod Asked
pub mod Joined
pub mod Levels
pub mod Taken
