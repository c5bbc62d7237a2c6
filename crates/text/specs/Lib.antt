pub mod Reading
pub mod Model
pub mod Walk
