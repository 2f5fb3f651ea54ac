pub mod Compacting
pub mod Configured
pub mod Moving
pub mod Rows
pub mod ToldFaults
