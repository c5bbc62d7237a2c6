pub mod Kept
pub mod LevelModel
