pub mod Model
pub mod OnSheet
