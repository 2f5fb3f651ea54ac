pub mod HeldSteps
pub mod FlagSteps
pub mod LinedSteps
pub mod KeptSteps
pub mod CutAnswers
mod Examples
pub mod ImagedSteps
pub mod ImageSteps
pub mod HeldLaws
pub mod KnownLaws
pub mod MapSteps
mod OnLists
mod SearchExamples
pub mod ViewAnswers
pub mod Documents
pub mod EditSteps
pub mod KeptEdits
pub mod ListSteps
mod PairEdits
pub mod ViewSteps
mod TemplateExamples
pub mod NamedSteps
