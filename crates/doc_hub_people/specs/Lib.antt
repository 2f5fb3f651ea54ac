pub mod Laws
pub mod PeopleAnswers
pub mod VisitSteps
-- words of these definitions, for the crates above
pub use Rattle.doc_hub_answers.specs.AnswerSteps
pub use Rattle.doc_hub_answers.specs.Counts
pub use Rattle.doc_hub_answers.specs.Edits
pub use Rattle.doc_hub_answers.specs.Replies
pub use Rattle.doc_hub_answers.specs.Shelves
pub use Rattle.doc_hub_answers.specs.declared.answer.Answer
pub use Rattle.doc_hub_answers.specs.declared.edit.Edit
pub use Rattle.doc_hub_answers.specs.declared.exchange.Exchange
pub use Rattle.doc_hub_answers.specs.declared.method.Method
