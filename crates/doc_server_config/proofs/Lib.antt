mod Examples
mod BrowsingExamples
mod ListeningExamples
mod KeySteps
pub mod FolderPageSteps
mod OverlapSteps
mod ReadmeSteps
mod PartSteps
mod RowSteps
