pub mod Model
pub mod Taking
