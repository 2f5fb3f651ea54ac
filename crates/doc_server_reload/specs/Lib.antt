pub mod CallLaws
pub mod Laws
pub mod LeadSteps
pub mod Leading
pub mod Leads
pub mod ReplyLaws
pub mod RestoredLaws
pub mod Texts
-- words of these definitions, for the crates above
pub use Rattle.doc_server_kept.specs.KeptTurns
