pub mod FoundSets
pub mod Maxima
pub mod Pivot
pub mod Stage
pub mod Turns
