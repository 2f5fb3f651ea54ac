pub mod Rules
pub mod Values
pub mod Unknown
pub mod TableFaults
pub mod RowPlaces
