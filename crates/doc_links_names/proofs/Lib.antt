pub mod Laws
pub mod NameSteps
pub mod NumberSteps
pub mod Numberings
pub mod TextSteps
pub mod Uses
