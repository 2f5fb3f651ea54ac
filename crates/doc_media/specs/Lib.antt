pub mod Held
pub mod Kinds
pub mod Laws
pub mod Media
