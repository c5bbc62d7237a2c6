pub mod Journal
pub mod Model
