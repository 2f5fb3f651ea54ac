pub mod TextSteps
pub mod WriteSteps
