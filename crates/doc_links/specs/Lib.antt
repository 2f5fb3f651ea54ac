pub mod IndexSteps
pub mod NumberingSteps
pub mod StampSteps
pub mod WrittenSteps
