mod Accepting
mod Asking
mod Bounds
pub mod Crashing
mod Fewer
mod Forces
mod GivenNumbers
mod Going
pub mod Leading
mod Listed
mod Readers
mod Reloading
mod Turning
mod Hosted
mod Joining
mod Ready
