pub mod Fitting
pub mod Lacking
pub mod Loops
