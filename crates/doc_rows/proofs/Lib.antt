pub mod RowSteps
pub mod RowsSteps
pub mod LookLaws
pub mod SeenLaws
pub mod PlaceLaws
pub mod StepLaws
