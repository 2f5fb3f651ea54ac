pub mod AliasSteps
pub mod GroupSets
pub mod Laws
pub mod Names
pub mod Numbers
pub mod Store
