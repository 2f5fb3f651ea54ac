pub mod Caches
pub mod Laws
pub mod Lending
