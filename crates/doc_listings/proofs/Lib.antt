mod Examples
mod WriteSteps
