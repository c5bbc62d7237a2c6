pub mod Lent
pub mod List
pub mod Model
pub mod Tables
