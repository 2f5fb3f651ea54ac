pub mod Linking
pub mod Sources
