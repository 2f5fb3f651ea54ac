pub mod Follows
pub mod Laws
pub mod MemoryFiles
pub mod Sights
