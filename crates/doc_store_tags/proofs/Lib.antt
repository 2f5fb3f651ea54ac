pub mod DigestLaws
mod Examples
pub mod NameSteps
pub mod QuoteSteps
pub mod TagLaws
