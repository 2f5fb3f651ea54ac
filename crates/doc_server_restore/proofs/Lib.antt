mod CompactionLaw
mod Effects
pub mod LineLaws
mod MadeSteps
pub mod RecordSteps
mod SameSteps
mod WriterLaws
