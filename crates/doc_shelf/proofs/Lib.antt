mod LinkLaws
mod ShelfSteps
mod StepLaws
