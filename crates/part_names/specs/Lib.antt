pub mod Names
pub mod Model
