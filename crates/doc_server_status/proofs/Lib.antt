mod Examples
pub mod Digits
