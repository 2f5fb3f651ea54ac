mod StoreSteps
mod ToldSteps
