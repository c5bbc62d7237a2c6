pub mod Model
pub mod Takes
