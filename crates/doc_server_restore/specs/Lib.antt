pub mod Laws
pub mod Restores
pub mod RestoreSteps
pub mod Written
pub mod WriterSteps
