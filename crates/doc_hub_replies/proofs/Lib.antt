pub mod AnswerLaws
mod BesideSteps
mod EditLaws
pub mod GuestSteps
mod MediaExamples
mod ServingSteps
pub mod TakingLaws
-- laws of crates below, for the crates above
pub use Rattle.doc_hub_media.proofs.EditingLaws
pub use Rattle.doc_hub_media.proofs.EditsCan
pub use Rattle.doc_hub_media.proofs.MediaLaws
pub use Rattle.doc_hub_media.proofs.AnswerEdits
pub use Rattle.doc_hub_media.proofs.OwnerSteps
