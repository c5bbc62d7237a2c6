pub mod Frontier
pub mod Growing
pub mod Moves
pub mod Showing
pub mod Steps
