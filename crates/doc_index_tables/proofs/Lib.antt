pub mod BlockSteps
pub mod CountSteps
pub mod CutSteps
pub mod EntrySteps
pub mod EntryWalk
mod Examples
pub mod FlatSteps
pub mod HalfSteps
pub mod NumberSteps
pub mod PackedSteps
pub mod PairEnds
pub mod PairSteps
pub mod PlaceSteps
pub mod SingleSteps
pub mod TableSteps
pub mod TextSteps
