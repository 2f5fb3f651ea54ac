pub mod Memos
pub mod Numbered
pub mod SeenPages
pub mod SeenSteps
pub mod Tellers
