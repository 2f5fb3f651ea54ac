mod Examples
pub mod NameLaws
pub mod NumberLaws
pub mod EntryLaws
pub mod UseLaws
