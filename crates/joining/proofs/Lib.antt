pub mod Follow
pub mod Walk
