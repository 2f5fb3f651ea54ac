pub mod Fronts
pub mod Held
pub mod SearchSteps
pub mod Searches
pub mod WordSteps
pub mod Words
