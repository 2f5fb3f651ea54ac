mod Examples
pub mod PlainLaws
pub mod EndSteps
mod TailExamples
pub mod LabelSteps
pub mod ReferenceSteps
pub mod TitleSteps
pub mod Addresses
pub mod CodeSpanLaws
pub mod CodeTextLaws
pub mod EndLaws
mod EnclosedExamples
pub mod PlainTexts
pub mod ReadLaws
pub mod RunCounts
pub mod RunLaws
pub mod SearchSteps
pub mod Sizes
