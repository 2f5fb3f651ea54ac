pub mod CellLaws
pub mod ContainerSteps
pub mod Ends
pub mod HtmlNames
pub mod RunLaws
pub mod StripLaws
mod Examples
pub mod TagLaws
