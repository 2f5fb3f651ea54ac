-- The lines of a paragraph's text, seen one by one.
use Rattle.std.specs.Prelude.{◌≡◌, List, [], ◌∷◌, Some, chars}
use Rattle.doc_rules.specs.Characters.{Text}
use Rattle.doc_rules.specs.Blocks.{joined}
use Rattle.doc_lines.specs.RestSteps.{rest_of}
use Rattle.doc_blocks_starts.specs.Tables.{lines_in, source_of}
use Rattle.doc_tables.specs.declared.table.TableText.{TableText}
use Rattle.doc_rules.specs.Tables.{table_in, text_lines}

-- the last of some lines
unfoldable pub last_of : List Text → Text
last_of [] = []
last_of (line ∷ []) = line
last_of (line ∷ next ∷ more) = last_of (next ∷ more)

-- the last line of a text
abbrev pub last_line : Text → Text
last_line text = last_of (text_lines text)

-- the lines of the rows of a table
abbrev pub row_lines : TableText → List Text
row_lines found = lines_in (rest_of found.rows)

-- these are the lines of the table in a text, and this the text before it
pub record IsTableIn (text : Text) (found : TableText) : Type 0 where
  pub lines : List Text
  pub found_is : table_in (text_lines text)
      ≡ Some (lines, source_of (chars found.header.now) (chars found.delimiters.now) (row_lines found))
  pub before_is : joined lines ≡ chars found.before.now
