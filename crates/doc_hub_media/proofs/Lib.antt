mod DeskSteps
pub mod MediaLaws
-- laws of crates below, for the crates above
pub use Rattle.doc_hub_editing.proofs.AskingLaws
pub use Rattle.doc_hub_editing.proofs.EditLaws as EditingLaws
pub use Rattle.doc_hub_editing.proofs.EditsCan
pub use Rattle.doc_hub_editing.proofs.AnswerEdits
pub use Rattle.doc_hub_editing.proofs.OwnerSteps
