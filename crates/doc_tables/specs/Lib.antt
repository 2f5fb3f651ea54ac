pub mod CellSteps
pub mod ColumnSteps
pub mod Laws
pub mod LineSteps
