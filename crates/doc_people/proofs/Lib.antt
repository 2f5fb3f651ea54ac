mod Computing
mod Sites
mod Bodies
mod QuerySteps
mod SettingExamples
mod FolderExamples
mod InertExamples
mod NavigationExamples
mod ToolExamples
mod StatusExamples
mod PageExamples
mod ListExamples
mod PartExamples
mod SnippetExamples
mod SearchExamples
mod StyleSheetExamples
pub mod InertLaws
pub mod KeyLaws
pub mod CountLaws
pub mod WrittenLaws
pub mod GroupLaws
