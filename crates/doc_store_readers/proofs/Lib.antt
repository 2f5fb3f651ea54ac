pub mod CopySteps
pub mod EntryCopies
mod Examples
pub mod EntrySteps
pub mod FindLaws
pub mod FilterSteps
pub mod GroupLaws
pub mod GroupSteps
pub mod KeySteps
pub mod MapSteps
pub mod MapValues
pub mod MeetSteps
pub mod ReaderSteps
pub mod SitesOfViews
pub mod SortedSteps
pub mod ViewLaw
