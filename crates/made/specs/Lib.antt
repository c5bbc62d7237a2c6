pub mod Made
pub mod Model
