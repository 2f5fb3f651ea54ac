pub mod FolderLaws
pub mod FoundSteps
pub mod ListLaws
pub mod StartLaws
pub mod TextLaws
pub mod KeySteps
mod StartExamples
