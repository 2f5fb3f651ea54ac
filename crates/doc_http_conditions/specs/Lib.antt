pub mod EntityTags
pub mod FieldValues
pub mod Grammar
pub mod Laws
pub mod Lists
pub mod Verdicts
