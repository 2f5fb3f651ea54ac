mod Examples
pub mod HeldSteps
pub mod KindSteps
pub mod MediaLaws
pub mod SplitSteps
