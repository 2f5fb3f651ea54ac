pub mod DefinitionSteps
pub mod GatheredSteps
pub mod LeafSteps
pub mod TableSteps
pub mod LineSteps
pub mod StartSteps
pub mod Tests
mod Examples
pub mod TreePaths
pub mod LeafLaws
pub mod StartLaws
pub mod LineLaws
pub mod ClosingLaws
pub mod OnePassLaws
