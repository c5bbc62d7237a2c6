pub mod Accepted
pub mod Added
pub mod Examples
pub mod MadeSheets
pub mod Rows
