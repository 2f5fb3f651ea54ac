pub mod AnswerSteps
pub mod Counts
pub mod Edits
pub mod Replies
-- words of these definitions, for the crates above
pub use Rattle.doc_shelf.specs.Shelves
