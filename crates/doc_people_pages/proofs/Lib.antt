mod HeadingSteps
mod InertSteps
mod LinkedSteps
mod PageSteps
