mod ConditionLemmas
mod ContentTypeLemmas
mod Examples
pub mod FaultLemmas
mod HeadLemmas
pub mod LawLemmas
mod PasswordExamples
pub mod PasswordLemmas
mod ProgressLemmas
mod ReadLemmas
mod SkipLemmas
mod SpanLemmas
pub mod TakenLemmas
mod TokenLemmas
