pub mod Cursors
pub mod Entities
pub mod Lines
pub mod MeaningSteps
pub mod RestSteps
pub mod Rules
pub mod Tables
