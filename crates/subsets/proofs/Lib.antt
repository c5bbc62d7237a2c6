-- The laws; each other folder holds the proof of one function.
pub mod Bound
pub mod Checks
pub mod Formula
pub mod Pascal
