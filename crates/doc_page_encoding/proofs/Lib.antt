pub mod DestinationLaws
pub mod EncodingLaws
