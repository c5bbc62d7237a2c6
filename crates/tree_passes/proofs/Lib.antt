pub mod SheetPasses
pub mod TreePasses
pub mod TreeWritten
