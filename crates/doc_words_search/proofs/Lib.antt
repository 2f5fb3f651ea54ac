pub mod AgreeSteps
pub mod AsciiSteps
pub mod CountSteps
mod Examples
pub mod FlagSteps
pub mod FrontSteps
pub mod HeldSteps
pub mod MarkSteps
pub mod OrderSteps
pub mod PlaceSteps
pub mod PlainSteps
pub mod RankSteps
pub mod RunSteps
pub mod ScoredSteps
pub mod SearchSteps
pub mod TallySteps
mod WordExamples
