pub mod Asking
pub mod Finding
pub mod Reading
