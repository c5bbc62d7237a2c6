pub mod RoundTrip
pub mod Writing
