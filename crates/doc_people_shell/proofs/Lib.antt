pub mod WriteSteps
pub mod LineSteps
pub mod WindowSteps
pub mod ItemSteps
pub mod CrumbSteps
