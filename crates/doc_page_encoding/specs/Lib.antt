pub mod Encoding
pub mod Laws
