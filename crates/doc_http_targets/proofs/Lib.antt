mod EditExamples
mod FolderSteps
mod Fronts
mod OriginParts
pub mod RouteLaws
mod Routing
mod TargetExamples
mod TargetSteps
