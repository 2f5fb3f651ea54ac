pub mod NameSteps
pub mod Names
pub mod PageNumbers
