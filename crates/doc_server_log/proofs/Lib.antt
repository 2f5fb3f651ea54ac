pub mod EscapingSteps
mod Examples
mod LineExamples
pub mod LineSteps
pub mod PaddingSteps
pub mod PlainSteps
