pub mod Examples
pub mod Heading
pub mod InTurn
pub mod Lists
pub mod Said
pub mod Sound
