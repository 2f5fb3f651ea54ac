mod AnswerSteps
mod Ending
pub mod Feeding
pub mod Hearing
pub mod LeavingSteps
mod HandingOver
pub mod Minding
mod Modesty
mod NewsSteps
pub mod Parting
mod ReadSteps
mod ServingSteps
pub mod Sites
mod Sweeping
pub mod TableServing
mod TakeSteps
pub mod TurnSteps
pub mod Unedited
pub mod Tables
mod Visits
pub mod Wiring
pub mod Walks
pub mod QuietRuns
pub mod Settings
