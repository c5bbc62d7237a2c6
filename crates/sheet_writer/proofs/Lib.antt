pub mod Again
pub mod Examples
pub mod RoundTrip
pub mod Shape
pub mod Sound
pub mod Twins
pub mod Written
