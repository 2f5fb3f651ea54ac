-- The columns that a delimiter row says.
use Rattle.std.specs.Prelude.{Bool, List, [], ◌∷◌, true, false, Option, Some, None, option_and_then, option_map, codes}
use Rattle.doc_rules.specs.Characters.{Text, one_of}
use Rattle.doc_rules.specs.declared.alignment.Alignment.{Alignment}
use Rattle.doc_rules.specs.Tables.{alignments_of, has_columns, table_with}

-- alignments that are columns of a table
abbrev pub some_columns : List Alignment → Option (List Alignment)
some_columns columns = elim (has_columns columns) [ true ↦ Some columns | false ↦ None ]

-- the columns that these cells of a delimiter row say
abbrev pub columns_of : List Text → Option (List Alignment)
columns_of cells = option_and_then some_columns (alignments_of cells)

-- the columns of the table that begins with this header and this delimiter row
abbrev pub columns_with : Text → Text → Option (List Alignment)
columns_with header delimiters = option_map (λ table. table.columns) (table_with header delimiters [])

-- a delimiter row may begin with this line's first character
abbrev pub may_delimit : Text → Bool
may_delimit [] = false
may_delimit (c ∷ rest) = one_of (codes "|:- \t") c
