pub mod HostLaws
pub mod EndLaws
pub mod FoundLaws
