pub mod Laws
pub mod ParagraphSteps
pub mod Plain
