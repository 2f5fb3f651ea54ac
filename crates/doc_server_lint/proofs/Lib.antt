pub mod Clear
pub mod ClearLaw
pub mod ClearReaders
pub mod ClearRows
pub mod ClearTables
pub mod ClearWarnings
pub mod FirstLaw
pub mod FirstNames
pub mod FirstReaders
pub mod FirstRows
pub mod FirstSteps
pub mod LineSteps
mod LintExamples
pub mod ReaderSteps
pub mod ReportSteps
