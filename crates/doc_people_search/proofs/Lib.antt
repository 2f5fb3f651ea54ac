pub mod AskSteps
pub mod BestSteps
pub mod HitSteps
pub mod PartSteps
pub mod PlaceSteps
pub mod TermSteps
