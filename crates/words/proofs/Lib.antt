pub mod Lines
pub mod Pieces
pub mod Said
pub mod WordLaws
