pub mod Escaping
pub mod Lines
pub mod Pages
pub mod Paths
pub mod Refusals
pub mod Sights
pub mod Tokens
