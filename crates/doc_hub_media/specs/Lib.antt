pub mod MediaRequests
pub mod MediaAnswers
pub mod MediaSteps
pub mod Laws
-- words of these definitions, for the crates above
pub use Rattle.doc_hub_editing.specs.PeopleAnswers
pub use Rattle.doc_hub_editing.specs.VisitSteps
pub use Rattle.doc_hub_editing.specs.PeopleLaws
pub use Rattle.doc_hub_editing.specs.EditAnswers
pub use Rattle.doc_hub_editing.specs.EditRequests
pub use Rattle.doc_hub_editing.specs.EditResponses
pub use Rattle.doc_hub_editing.specs.EditSteps
pub use Rattle.doc_hub_editing.specs.Laws as EditLaws
pub use Rattle.doc_hub_editing.specs.AnswerSteps
pub use Rattle.doc_hub_editing.specs.Counts
pub use Rattle.doc_hub_editing.specs.Edits
pub use Rattle.doc_hub_editing.specs.Replies
pub use Rattle.doc_hub_editing.specs.Shelves
pub use Rattle.doc_hub_editing.specs.Answer
pub use Rattle.doc_hub_editing.specs.Edit
pub use Rattle.doc_hub_editing.specs.Exchange
pub use Rattle.doc_hub_editing.specs.Method
