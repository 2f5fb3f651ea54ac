pub mod MoveSteps
pub mod SeenSteps
