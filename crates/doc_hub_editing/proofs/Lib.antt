mod DeskSteps
mod OtherSteps
pub mod EditsCan
mod MakingSteps
mod FormSteps
mod EditRequestExamples
pub mod EditLaws
mod PreviewSteps
-- laws of crates below, for the crates above
pub use Rattle.doc_hub_people.proofs.AskingLaws
pub use Rattle.doc_hub_people.proofs.AnswerEdits
pub use Rattle.doc_hub_people.proofs.OwnerSteps
