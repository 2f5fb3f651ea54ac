mod LinkSteps
mod PageSteps
mod PlaceSteps
mod SourceSteps
