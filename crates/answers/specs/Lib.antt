pub mod Answers
pub mod Faults
pub mod Model
pub mod Verdict
