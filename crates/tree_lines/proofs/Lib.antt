pub mod LineFields
pub mod LinePlaces
pub mod LineRead
