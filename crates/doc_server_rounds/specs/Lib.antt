pub mod Peers
pub mod Rounds
pub mod Sending
pub mod Served
pub mod Dropped
pub mod Faults
pub mod Made
pub mod Servings
