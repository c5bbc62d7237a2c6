pub mod EveryList
pub mod Model
pub mod Steps
