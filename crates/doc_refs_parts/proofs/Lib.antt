pub mod Ends
mod Examples
pub mod Escapes
pub mod MapLaws
pub mod ParenthesisSteps
pub mod Rests
pub mod SpaceLaws
pub mod TakenLaws
