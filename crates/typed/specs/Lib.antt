pub mod Lines
pub mod Commands
