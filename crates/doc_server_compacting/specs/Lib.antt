pub mod Compactings
pub mod MemoryPlaces
