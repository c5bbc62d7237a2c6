pub mod Fullest
