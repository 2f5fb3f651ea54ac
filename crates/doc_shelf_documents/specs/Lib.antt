pub mod Documents
pub mod Shelves
