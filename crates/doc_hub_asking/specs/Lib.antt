pub mod Asking
pub mod AskingSteps
