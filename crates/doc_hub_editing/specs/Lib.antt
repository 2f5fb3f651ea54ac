pub mod EditRequests
pub mod EditResponses
pub mod EditAnswers
pub mod EditSteps
pub mod Laws
-- words of these definitions, for the crates above
pub use Rattle.doc_hub_people.specs.PeopleAnswers
pub use Rattle.doc_hub_people.specs.VisitSteps
pub use Rattle.doc_hub_people.specs.Laws as PeopleLaws
pub use Rattle.doc_hub_people.specs.AnswerSteps
pub use Rattle.doc_hub_people.specs.Counts
pub use Rattle.doc_hub_people.specs.Edits
pub use Rattle.doc_hub_people.specs.Replies
pub use Rattle.doc_hub_people.specs.Shelves
pub use Rattle.doc_hub_people.specs.Answer
pub use Rattle.doc_hub_people.specs.Edit
pub use Rattle.doc_hub_people.specs.Exchange
pub use Rattle.doc_hub_people.specs.Method
