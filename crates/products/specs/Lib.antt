pub mod Measures
pub mod Model
pub mod Products
