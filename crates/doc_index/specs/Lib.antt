pub mod Held
pub mod IndexSteps
