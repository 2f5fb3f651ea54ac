pub mod Laws
pub mod MediaLinks
pub mod Images
