pub mod Lists
pub mod Rest
pub mod Sets
pub mod Value
pub mod Words
