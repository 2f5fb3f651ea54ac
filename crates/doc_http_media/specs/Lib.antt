pub mod MediumReplies
pub mod MediumSteps
