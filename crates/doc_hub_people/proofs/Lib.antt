mod OfferExamples
pub mod AskingLaws
-- laws of crates below, for the crates above
pub use Rattle.doc_hub_answers.proofs.AnswerEdits
pub use Rattle.doc_hub_answers.proofs.OwnerSteps
