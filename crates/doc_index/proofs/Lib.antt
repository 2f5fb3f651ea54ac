mod Examples
pub mod HeldSteps
pub mod IndexSteps
pub mod OrderSteps
