pub mod Model
pub mod Page
