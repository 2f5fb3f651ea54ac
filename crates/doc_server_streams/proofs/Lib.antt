mod Written
mod Pieces
pub mod Prefixes
pub mod Reading
pub mod Results
