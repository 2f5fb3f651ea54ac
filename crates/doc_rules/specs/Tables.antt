-- Tables in the text of a paragraph (GitHub Flavored Markdown 0.29, section 4.10). A line has lost the spaces and tabs at its front.
use Rattle.std.specs.Prelude.{nat_le, Bool, true, false, not, ◌&&◌, ◌==◌, List, [], ◌∷◌, map, length, take}
use Rattle.std.specs.Prelude.{Option, Some, None, option_map, is_some}
use Rattle.doc_rules.specs.Characters.{Text, is_space_or_tab, is_blank_text, strip, strip_front}
use Rattle.doc_rules.specs.Lines.{onto_first}
use Rattle.doc_rules.specs.declared.alignment.Alignment.{Alignment}
use Rattle.doc_rules.specs.declared.alignment.Alignment.TheVariants.{Default, Left, Center, Right}

-- ---- rows

-- a text cut at each '|' before which no backslash stands directly; the flag says that a backslash was the last character
unfoldable pub parts_behind : Bool → Text → Text × List Text
parts_behind escaped [] = ([], [])
parts_behind escaped (c ∷ rest) =
    elim ((c == 124) && not escaped) [
      | true ↦ ([], (parts_behind false rest).0 ∷ (parts_behind false rest).1)
      | false ↦ (c ∷ (parts_behind (c == 92) rest).0, (parts_behind (c == 92) rest).1)
    ]

-- the parts of a line, of which there is one at least
unfoldable pub parts : Text → List Text
parts line = (parts_behind false line).0 ∷ (parts_behind false line).1

-- a line without a '|' at its front
unfoldable pub without_pipe : Text → Text
without_pipe [] = []
without_pipe (c ∷ rest) = elim (c == 124) [ true ↦ rest | false ↦ c ∷ rest ]

-- parts without the last one where it is blank
unfoldable pub without_blank_end : List Text → List Text
without_blank_end [] = []
without_blank_end (part ∷ []) = elim (is_blank_text part) [ true ↦ [] | false ↦ part ∷ [] ]
without_blank_end (part ∷ next ∷ more) = part ∷ without_blank_end (next ∷ more)

-- each backslash goes that stands directly before a '|'
unfoldable pub unescape_pipes : Text → Text
unescape_pipes [] = []
unescape_pipes (c ∷ []) = c ∷ []
unescape_pipes (c ∷ d ∷ rest) = elim ((c == 92) && (d == 124)) [ true ↦ d ∷ unescape_pipes rest | false ↦ c ∷ unescape_pipes (d ∷ rest) ]

-- the cells of a line, which has lost the spaces and tabs at its front
unfoldable pub cells_of_line : Text → List Text
cells_of_line line = map (λ part. unescape_pipes (strip is_space_or_tab part)) (without_blank_end (parts (without_pipe line)))

-- ---- delimiter rows

-- what colons at the front and at the end of its cell say of a column
unfoldable pub aligned : Bool → Bool → Alignment
aligned true true = Center
aligned true false = Left
aligned false true = Right
aligned false false = Default

-- behind the dashes: nothing, or one ':'
unfoldable pub colon_end : Text → Option Bool
colon_end [] = Some false
colon_end (c ∷ []) = elim (c == 58) [ true ↦ Some true | false ↦ None ]
colon_end (c ∷ d ∷ rest) = None

-- dashes to the end, or to one ':' at the end
unfoldable pub dashes : Text → Option Bool
dashes text = colon_end (strip_front (λ c. c == 45) text)

-- one dash at least
unfoldable pub some_dashes : Text → Option Bool
some_dashes [] = None
some_dashes (c ∷ rest) = elim (c == 45) [ true ↦ dashes rest | false ↦ None ]

-- what a cell of a delimiter row says of its column
unfoldable pub alignment_of : Text → Option Alignment
alignment_of [] = None
alignment_of (c ∷ rest) = elim (c == 58) [
  | true ↦ option_map (aligned true) (some_dashes rest)
  | false ↦ option_map (aligned false) (some_dashes (c ∷ rest))
]

-- of all cells, where each is one
unfoldable pub alignments_of : List Text → Option (List Alignment)
alignments_of [] = Some []
alignments_of (cell ∷ more) = elim (alignment_of cell) [
  | None ↦ None
  | Some one ↦ option_map (λ rest. one ∷ rest) (alignments_of more)
]

-- a table has 1 to 100 columns (the latter is this project's choice)
unfoldable pub has_columns : List Alignment → Bool
has_columns columns = nat_le 1 (length columns) && nat_le (length columns) 100

-- ---- tables

-- the alignments of the columns, the cells of the header, one for each column, and of the rows, no more than one for each
pub record TableSource : Type 0 where
  pub columns : List Alignment
  pub header : List Text
  pub rows : List (List Text)

-- the table that begins with this header and this delimiter row, and has these lines behind it
unfoldable pub table_with : Text → Text → List Text → Option TableSource
table_with header delimiters rows = elim (alignments_of (cells_of_line delimiters)) [
  | None ↦ None
  | Some columns ↦ elim (has_columns columns && (length (cells_of_line header) == length columns)) [
    | false ↦ None
    | true ↦ Some (record {
      columns = columns;
      header = cells_of_line header;
      rows = map (λ line. take (length columns) (cells_of_line line)) rows;
    })
  ]
]

-- the lines before the first table, and that table
unfoldable pub table_in : List Text → Option (List Text × TableSource)
table_in [] = None
table_in (line ∷ []) = None
table_in (line ∷ next ∷ more) = elim (table_with line next more) [
  | Some table ↦ Some ([], table)
  | None ↦ option_map (λ found. (line ∷ found.0, found.1)) (table_in (next ∷ more))
]

-- a text cut at its LFs
unfoldable pub text_lines : Text → List Text
text_lines [] = [] ∷ []
text_lines (c ∷ rest) = elim (c == 10) [ true ↦ [] ∷ text_lines rest | false ↦ onto_first c (text_lines rest) ]

-- a paragraph of this text has a table in it
unfoldable pub has_table : Text → Bool
has_table text = is_some (table_in (text_lines text))
