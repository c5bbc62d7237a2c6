-- What the C interface says of the calls behind it.
pub mod Outcomes
