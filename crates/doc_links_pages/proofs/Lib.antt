pub mod AnchorSteps
pub mod CountSteps
mod Examples
pub mod HeadingSteps
