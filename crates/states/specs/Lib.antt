pub mod Model
pub mod States
