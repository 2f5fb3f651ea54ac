pub mod ChainLemmas
pub mod Digits
mod FirstChainLemmas
mod FirstFrontLemmas
mod FirstReadingLemmas
mod FirstRecordLemmas
pub mod FrontLemmas
mod HeadLemmas
pub mod HeaderLemmas
pub mod LawLemmas
mod ReadingLemmas
pub mod RecordLemmas
mod TailLemmas
