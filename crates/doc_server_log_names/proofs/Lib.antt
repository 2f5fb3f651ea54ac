mod Examples
pub mod FieldSteps
pub mod NameSteps
