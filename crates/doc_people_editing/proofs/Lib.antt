mod WriteSteps
mod Computing
mod Sites
mod EditExamples
mod PreviewExamples
pub mod TagLaws
pub mod ScriptLaws
pub mod PreviewLaws
