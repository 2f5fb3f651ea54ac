pub mod AnswerSteps
pub mod FlagSteps
pub mod MemoSteps
pub mod NamedSteps
pub mod SearchSteps
pub mod WholeSteps
