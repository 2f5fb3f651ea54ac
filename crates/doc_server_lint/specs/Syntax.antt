-- What texts are read as.
use Rattle.std.specs.Prelude.{◌≡◌, ℕ, List, Some, None}
use Rattle.toml.specs.Parse.{parse_document}
use Rattle.toml.specs.View.{table_view}
use Rattle.doc_server_lint.specs.declared.syntax.Reading.{Reading}
use Rattle.doc_server_lint.specs.declared.syntax.Reading.TheVariants.{Document, Broken}

-- a text is read as the document that it is, where it is one
abbrev pub IsReading : List ℕ → Reading → Type 0
IsReading text (Document document) = parse_document text ≡ Some (table_view document.table)
IsReading text (Broken line) = parse_document text ≡ None
