pub mod DecisionLaws
pub mod DotSteps
mod Examples
pub mod JoinSteps
mod LetterExamples
pub mod LinkLaws
pub mod LongPaths
pub mod ReferenceSteps
mod ShownExamples
pub mod WrittenPathLaws
pub mod WrittenPathSteps
