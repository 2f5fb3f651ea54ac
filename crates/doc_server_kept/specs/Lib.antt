pub mod Followers
pub mod KeptTurns
