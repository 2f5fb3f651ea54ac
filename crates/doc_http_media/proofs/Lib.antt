mod Examples
mod MediumSteps
