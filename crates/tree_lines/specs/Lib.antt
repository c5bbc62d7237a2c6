pub mod Count
pub mod LineModel
