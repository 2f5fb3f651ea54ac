mod AppendLemmas
pub mod HoldLemmas
mod MemoryLemmas
mod Mixtures
pub mod Moments
mod OpeningLemmas
mod Places
mod RepairLemmas
mod RoomLemmas
mod Tearing
mod WriteLemmas
