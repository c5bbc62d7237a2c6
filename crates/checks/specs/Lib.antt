pub mod Model
pub mod Neighbours
