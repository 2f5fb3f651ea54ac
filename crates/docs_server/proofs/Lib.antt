mod CatchingSteps
mod ConfiguredSteps
mod RestoredSteps
mod TakenSteps
