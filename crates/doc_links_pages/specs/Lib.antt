pub mod KnownSteps
pub mod Links
pub mod Names
pub mod PageLinks
