pub mod ElementSteps
mod Examples
pub mod GrammarLaws
pub mod LawSteps
pub mod ReadingSteps
pub mod StrippingSteps
pub mod TagSteps
pub mod WritingSteps
