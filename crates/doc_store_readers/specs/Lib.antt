pub mod Groups
pub mod Keys
pub mod Laws
pub mod Listings
pub mod Maps
pub mod Pages
pub mod Readers
pub mod Sites
