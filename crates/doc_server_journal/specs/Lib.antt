pub mod Devices
pub mod FileDevices
pub mod Journals
pub mod Memories
pub mod Openings
