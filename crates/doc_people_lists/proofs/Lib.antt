mod BodySteps
mod GroupSteps
mod PartSteps
mod SeenSteps
