mod AlikeSteps
mod BesideMedia
mod CallLaw
mod Examples
mod Fits
pub mod Itself
pub mod KeptSites
pub mod LeadLaw
mod LeadingSteps
mod LessPuts
pub mod MadeLaw
mod PushSteps
mod ReadLaw
pub mod ReloadLaw
mod ReplyLaw
mod RestoredLaw
mod RestoredSites
mod Sizes
mod TextsLaw
mod Utf8Bytes
