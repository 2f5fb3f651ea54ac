pub mod Policies
pub mod Script
pub mod EditPage
pub mod NewPage
pub mod Preview
pub mod Laws
