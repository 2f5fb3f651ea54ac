pub mod AnswerEdits
pub mod AnswersFree
pub mod Apart
mod ConnectionSteps
mod CountSteps
mod CutLaws
mod DropLaws
mod EditingAlike
mod EditingLaws
mod EditingPaths
pub mod Elsewhere
mod FreshLaws
mod FrontSteps
mod GivenLaws
mod HiddenLaws
mod KindSteps
mod MadeLaws
mod MadeSites
pub mod MediaLaws
mod NextLaws
mod NumberSteps
mod PushLaws
mod PutCounts
mod ReachedLaws
mod ReplyExamples
pub mod ResponsePaths
mod RunLaws
pub mod RunParts
mod RunSteps
mod SiteLaws
mod StepCounts
pub mod StepEdits
mod StepLaws
mod StoreSteps
mod StoredSteps
mod Takings
pub mod ToldPaths
