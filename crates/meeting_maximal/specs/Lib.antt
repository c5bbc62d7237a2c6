pub mod Fits
pub mod Model
