mod Computing
mod TableExamples
pub mod PartLaws
pub mod CellLaws
pub mod AlignmentLaws
pub mod ColumnLaws
pub mod TableLaws
pub mod UnescapeLaws
pub mod LineLaws
pub mod TextLaws
pub mod DelimiterLaws
