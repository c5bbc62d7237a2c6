pub mod LevelSteps
pub mod LevelWritten
pub mod LineFilling
pub mod LineNumbers
pub mod LineUnions
