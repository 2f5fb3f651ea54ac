pub mod Laws
pub mod ParenthesisSteps
pub mod Sources
pub mod Targets
