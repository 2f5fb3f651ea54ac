pub mod CandidateSteps
mod Examples
pub mod FoundSteps
pub mod ScoreSteps
