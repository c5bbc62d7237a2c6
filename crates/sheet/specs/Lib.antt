pub mod Answers
pub mod Lent
pub mod Network
pub mod Sheet
