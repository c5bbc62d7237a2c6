pub mod Examples
pub mod Full
pub mod Most
pub mod PartNames
pub mod Told
