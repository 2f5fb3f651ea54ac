pub mod CostSteps
pub mod Counting
pub mod OnlyReads
mod Reading
mod Removals
mod StepLimits
