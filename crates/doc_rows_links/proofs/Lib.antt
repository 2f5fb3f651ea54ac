pub mod WritingLaws
pub mod PlaceSteps
pub mod LinkLaws
pub mod TargetSteps
mod LinkExamples
