pub mod Asked
pub mod AskedSteps
pub mod EditRefusals
