mod Crashes
mod Following
pub mod Leading
pub mod MemorySteps
pub mod Passing
pub mod QuietEvents
mod Records
mod Reloads
mod Rooms
mod Saving
mod Settling
mod Texts
mod Written
