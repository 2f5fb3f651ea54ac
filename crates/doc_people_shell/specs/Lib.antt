pub mod Items
pub mod Windows
