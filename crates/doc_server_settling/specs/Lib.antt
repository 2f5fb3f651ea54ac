pub mod Faults
pub mod Reserves
