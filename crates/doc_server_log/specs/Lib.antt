pub mod Dates
pub mod JsonLines
pub mod Laws
pub mod Moments
pub mod PlainLines
pub mod Readers
pub mod RequestLines
