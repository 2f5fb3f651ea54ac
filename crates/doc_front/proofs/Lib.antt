mod Computing
mod FrontExamples
pub mod FrontLaws
pub mod LineSteps
pub mod ValueSteps
pub mod FrontSteps
