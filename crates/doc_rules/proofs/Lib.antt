pub mod Computing
mod Shows
mod SelectedExamples
mod TextExamples
mod EscapeExamples
mod LeafExamples
mod HtmlBlockExamples
mod DefinitionExamples
mod ContainerExamples
mod InlineExamples
mod EmphasisExamples
mod LinkExamples
mod FrontExamples
mod AnchorExamples
mod PageExamples
mod TableExamples
mod ExtensionExamples
pub mod LineLaws
pub mod PageLineLaws
pub mod ColumnLaws
pub mod DefinitionLaws
pub mod HeadingLaws
pub mod ParserLaws
pub mod GrammarLaws
pub mod EscapingLaws
pub mod PieceLaws
pub mod FillingLaws
pub mod QuoteLines
pub mod QuoteLaws
pub mod EmphasisLaws
pub mod AnchorLaws
pub mod RoomLaws
