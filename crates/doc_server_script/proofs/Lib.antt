mod CutLaws
mod EscapeLaws
mod EscapeSteps
mod Examples
mod FieldSteps
mod GroupLaws
pub mod LineLengths
mod LoopSteps
pub mod PlainLines
pub mod ReadLaws
mod CompactionExamples
pub mod CompactionLaw
pub mod MadeSteps
pub mod ReplayLaw
pub mod Without
mod EventSteps
mod ScriptSteps
