pub mod BodySteps
mod EqualSteps
mod TableSteps
