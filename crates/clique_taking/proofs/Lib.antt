pub mod AllTaken
pub mod FreeAll
pub mod Inserted
pub mod Taking
