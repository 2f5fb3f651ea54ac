-- Tables as the lines that they stand in (GitHub Flavored Markdown 0.29, section 4.10), whose cells are read later.
use Rattle.std.specs.Prelude.{List, [], map, take, length, Option, Some, None}
use Rattle.doc_rules.specs.Characters.{Text}
use Rattle.doc_rules.specs.declared.alignment.Alignment.{Alignment}
use Rattle.doc_rules.specs.Tables.{TableSource, alignments_of, cells_of_line, text_lines}

-- the lines of the text that there may be
abbrev pub lines_in : Option Text → List Text
lines_in None = []
lines_in (Some text) = text_lines text

-- the columns that a delimiter row says; another line says none
abbrev pub columns_said : Text → List Alignment
columns_said delimiters = elim (alignments_of (cells_of_line delimiters)) [ Some columns ↦ columns | None ↦ [] ]

-- the table of this header, this delimiter row and these rows
abbrev pub source_of : (header delimiters : Text) → (rows : List Text) → TableSource
source_of header delimiters rows = record {
  columns = columns_said delimiters;
  header = cells_of_line header;
  rows = map (λ line. take (length (columns_said delimiters)) (cells_of_line line)) rows;
}
