pub mod BrokenSteps
mod Examples
pub mod FillingLaws
pub mod ImageLaws
pub mod PlaceLaws
