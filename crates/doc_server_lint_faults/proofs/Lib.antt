pub mod Counts
mod FaultExamples
pub mod KeySteps
pub mod RowSteps
