pub mod AnswerEdits
pub mod AnswerSteps
mod FaultSteps
pub mod OwnerSteps
mod PutSteps
pub mod ResponseEdits
