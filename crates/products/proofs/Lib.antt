pub mod CliqueProducts
pub mod Examples
pub mod Nearness
pub mod Peeling
pub mod Rounding
