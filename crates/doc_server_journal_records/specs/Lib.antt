pub mod FirstReadings
pub mod FirstRecords
pub mod Laws
pub mod Readings
pub mod Records
