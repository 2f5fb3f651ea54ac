pub mod RunLaws
pub mod KeepLaws
pub mod NumberLaws
pub mod PairLaws
pub mod PassLaws
pub mod MarkLaws
pub mod WrapLaws
mod Examples
mod PassExamples
pub mod Settled
pub mod Wrapping
pub mod Quiet
pub mod OnePassLaws
pub mod BoundLaws
pub mod Passing
pub mod Stretches
pub mod Pairs
pub mod Walks
pub mod InPlaceLaws
pub mod Numbers
pub mod NumberLoops
pub mod BracketLaws
pub mod Growing
pub mod Finals
pub mod IdleRuns
