pub mod DataLemmas
pub mod DigitLemmas
mod Examples
pub mod FieldLemmas
pub mod ExtentLemmas
pub mod LawLemmas
pub mod LengthLemmas
pub mod PlaceLemmas
pub mod ReaderLemmas
pub mod SizeLemmas
pub mod StageLemmas
