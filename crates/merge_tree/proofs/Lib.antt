pub mod GrownLines
pub mod Growing
pub mod ToldPages
