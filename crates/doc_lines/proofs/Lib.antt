mod CursorExamples
mod TableExamples
pub mod AheadLaws
pub mod AnswerLaws
pub mod BuiltInLaws
pub mod ByteSearch
pub mod CursorLaws
pub mod Digits
pub mod Ends
pub mod LineLaws
pub mod Pushes
pub mod Rests
pub mod RowLaws
pub mod SearchLaws
pub mod Slices
pub mod Steps
pub mod TableLaws
pub mod Takes
pub mod UnescapeSteps
