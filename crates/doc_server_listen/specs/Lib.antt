pub mod Costs
pub mod Counting
pub mod Edits
pub mod OnlyReads
pub mod Sites
