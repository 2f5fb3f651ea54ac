pub mod EntryLaws
pub mod FoldSteps
