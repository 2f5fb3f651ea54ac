pub mod Titles
pub mod Front
pub mod Fronted
pub mod Laws
pub mod FrontSteps
pub mod ValueSteps
