mod Reading
mod RowSteps
