pub mod Followed
pub mod Following
pub mod Listening
pub mod NamedDevices
pub mod Reloading
pub mod Serving
pub mod Stops
