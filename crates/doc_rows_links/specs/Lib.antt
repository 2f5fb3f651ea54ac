pub mod LinkRows
pub mod LinkSteps
