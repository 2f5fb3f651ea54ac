-- Laws of tables in the text of a paragraph.
use Rattle.std.specs.Prelude.{◌≡◌, false, ◌||◌, List, [], ◌∷◌, ◌++◌, option_map, is_some}
use Rattle.doc_rules.specs.Characters.{Text}
use Rattle.doc_tables.specs.CellSteps.{has_escaped_pipe}
use Rattle.doc_tables.specs.ColumnSteps.{columns_with}
use Rattle.doc_tables.specs.LineSteps.{last_line}
use Rattle.doc_rules.specs.Tables.{unescape_pipes, table_with, table_in, text_lines, has_table}

-- a cell that has no '|' behind a backslash is read as it stands
abbrev pub StandsForItself : Type 0
StandsForItself = (text : Text) → has_escaped_pipe text ≡ false → unescape_pipes text ≡ text

-- a header and a delimiter row begin a table whatever stands behind them, and its columns are theirs
abbrev pub TwoLinesBegin : Type 0
TwoLinesBegin = (header delimiters : Text) (rows : List Text)
    → option_map (λ table. table.columns) (table_with header delimiters rows) ≡ columns_with header delimiters

-- with more lines, there is a table where there was one, or where one begins in the last line and those behind it
abbrev pub GrowsByLines : Type 0
GrowsByLines = (lines : List Text) (last : Text) (more : List Text)
    → is_some (table_in (lines ++ last ∷ more)) ≡ (is_some (table_in (lines ++ last ∷ [])) || is_some (table_in (last ∷ more)))

-- the same of texts
abbrev pub GrowsByTexts : Type 0
GrowsByTexts = (text more : Text)
    → has_table (text ++ 10 ∷ more) ≡ (has_table text || is_some (table_in (last_line text ∷ text_lines more)))

-- a text behind another and a LF has its lines behind those of the other
abbrev pub LinesJoin : Type 0
LinesJoin = (text more : Text) → text_lines (text ++ 10 ∷ more) ≡ text_lines text ++ text_lines more
