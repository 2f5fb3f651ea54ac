-- The cells of a line, seen one by one.
use Rattle.std.specs.Prelude.{ℕ, Bool, true, false, not, ◌&&◌, ◌==◌, List, [], ◌∷◌, map, Option, Some, None, chars, codes}
use Rattle.doc_rules.specs.Characters.{Text, is_space_or_tab, is_blank_text, strip}
use Rattle.doc_rules.specs.Parsers.{is, word, holds}
use Rattle.doc_lines.specs.RestSteps.{rest_of}
use Rattle.doc_tables.specs.declared.cells.Cell.{Cell}
use Rattle.doc_tables.specs.declared.cells.Cells.{Cells}
use Rattle.doc_rules.specs.Tables.{parts, without_blank_end, unescape_pipes}

-- a text from the '|' on that ends its first part
unfoldable pub end_of_part : Bool → Text → Text
end_of_part escaped [] = []
end_of_part escaped (c ∷ rest) = elim ((c == 124) && not escaped) [ true ↦ c ∷ rest | false ↦ end_of_part (c == 92) rest ]

-- the parts of the text that there may be
abbrev pub parts_in : Option Text → List Text
parts_in None = []
parts_in (Some text) = parts text

-- a part is blank, and no text stands behind it
abbrev pub is_blank_end : Text → Option Text → Bool
is_blank_end part None = is_blank_text part
is_blank_end part (Some behind) = false

-- what is read of a part
abbrev pub part_text : Text → Text
part_text part = unescape_pipes (strip is_space_or_tab part)

-- the cells of a text without a '|' at its front
abbrev pub cells_of_text : Text → List Text
cells_of_text text = map part_text (without_blank_end (parts text))

-- the cells of the text that there may be
abbrev pub cells_in : Option Text → List Text
cells_in None = []
cells_in (Some text) = cells_of_text text

-- the cells that are left
abbrev pub cells_left : Cells → List Text
cells_left cells = cells_in (rest_of cells.rest)

-- a '|' behind a backslash stands in a text
abbrev pub has_escaped_pipe : Text → Bool
has_escaped_pipe text = holds (word (codes "\\|")) text

-- what is read of a cell
abbrev pub cell_text : Cell → Text
cell_text cell = unescape_pipes (chars cell.source.now)

-- what stands behind a '|' that this character stands before, where it is a backslash
unfoldable pub behind_pair : ℕ → Text → Option Text
behind_pair c rest = elim (c == 92) [ true ↦ is 124 rest | false ↦ None ]
