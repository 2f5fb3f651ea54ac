mod BegunLemmas
pub mod LawLemmas
mod LookLemmas
mod MarkLemmas
mod PieceLemmas
mod TakenLemmas
