pub mod Fronts
pub mod EndSteps
