pub mod Examples
pub mod PieceLaws
pub mod PlainSteps
