pub mod Blocks
pub mod Maps
pub mod Packed
pub mod Pairs
pub mod Rows
pub mod ShortTexts
pub mod TableSteps
pub mod TextTables
