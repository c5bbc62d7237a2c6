pub mod Lent
pub mod Model
