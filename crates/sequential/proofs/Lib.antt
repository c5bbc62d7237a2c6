pub mod Backing
pub mod Every
pub mod Inserting
pub mod NowListed
pub mod Starting
