pub mod Bearing
pub mod Classes
pub mod Communal
pub mod Free
pub mod Growth
pub mod Shown
pub mod Taken
pub mod Values
