pub mod Crashes
pub mod Followings
pub mod Memories
pub mod Networks
pub mod Readers
pub mod Reloads
pub mod Saved
-- words of these definitions, for the crates above
pub use Rattle.doc_server_reload.specs.KeptTurns
pub use Rattle.doc_server_reload.specs.Leading
