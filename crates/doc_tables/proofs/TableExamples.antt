-- Examples: the cells of lines, delimiter rows, and the tables in texts.
use Rattle.std.proofs.Common.{◌≡◌, [], ◌∷◌, ◌++◌, refl, true, false}
use Rattle.std.specs.Prelude.{codes, replicate, Some, None}
use Rattle.std.specs.List.{concat}
use Rattle.doc_rules.specs.declared.alignment.Alignment.TheVariants.{Default, Left, Center, Right}
use Rattle.doc_rules.specs.Tables.{cells_of_line, alignment_of, alignments_of, table_in, text_lines, has_table}
use Rattle.doc_tables.proofs.Computing.{table_words}

-- a '|' at each end or at none
edges :
    (cells_of_line (codes "| a | b |") ≡ codes "a" ∷ codes "b" ∷ [])
    × (cells_of_line (codes "a | b") ≡ codes "a" ∷ codes "b" ∷ [])
    × (cells_of_line (codes "|a|b| \t") ≡ codes "a" ∷ codes "b" ∷ [])
    × (cells_of_line (codes "abc") ≡ codes "abc" ∷ [])
unfolding table_words
edges = (refl, refl, refl, refl)

-- empty cells; a last one that is blank is none
empty :
    (cells_of_line (codes "|") ≡ [])
    × (cells_of_line [] ≡ [])
    × (cells_of_line (codes "||x") ≡ [] ∷ codes "x" ∷ [])
    × (cells_of_line (codes "||") ≡ [] ∷ [])
    × (cells_of_line (codes "a| |b") ≡ codes "a" ∷ [] ∷ codes "b" ∷ [])
unfolding table_words
empty = (refl, refl, refl, refl, refl)

-- a backslash before a '|' goes, also in code and also behind another one; others stay
escapes :
    (cells_of_line (codes "| a\\|b |") ≡ codes "a|b" ∷ [])
    × (cells_of_line (codes "a\\\\|b") ≡ codes "a\\|b" ∷ [])
    × (cells_of_line (codes "a\\b|c\\") ≡ codes "a\\b" ∷ codes "c\\" ∷ [])
    × (cells_of_line (codes "\\| x") ≡ codes "| x" ∷ [])
    × (cells_of_line (codes "| `\\|` | [l](u) | gone |") ≡ codes "`|`" ∷ codes "[l](u)" ∷ codes "gone" ∷ [])
unfolding table_words
escapes = (refl, refl, refl, refl, refl)

-- what a cell of a delimiter row says
alignments :
    (alignment_of (codes "-") ≡ Some Default)
    × (alignment_of (codes ":-") ≡ Some Left)
    × (alignment_of (codes "---:") ≡ Some Right)
    × (alignment_of (codes ":--:") ≡ Some Center)
    × (alignment_of (codes ":") ≡ None)
    × (alignment_of (codes "::-") ≡ None)
    × (alignment_of (codes "-::") ≡ None)
    × (alignment_of (codes "- -") ≡ None)
    × (alignment_of [] ≡ None)
unfolding table_words
alignments = (refl, refl, refl, refl, refl, refl, refl, refl, refl)

-- a delimiter row says it of each column, or nothing
rows :
    (alignments_of (cells_of_line (codes "|:-|-:|:-:|---|")) ≡ Some (Left ∷ Right ∷ Center ∷ Default ∷ []))
    × (alignments_of (cells_of_line (codes "|---|a|")) ≡ None)
    × (alignments_of (cells_of_line (codes "---\\|---")) ≡ None)
    × (alignments_of (cells_of_line (codes "|---||---|")) ≡ None)
unfolding table_words
rows = (refl, refl, refl, refl)

-- one column without any '|'
plain : table_in (text_lines (codes "a\n:-")) ≡ Some ([], record { columns = Left ∷ []; header = codes "a" ∷ []; rows = [] })
unfolding table_words
plain = refl

-- all lines behind the delimiter row are rows: also one that looks like an underline, and a '|' alone, which has no cell
lines_behind :
    (table_in (text_lines (codes "| a |\n|---|\n==="))
    ≡ Some ([], record { columns = Default ∷ []; header = codes "a" ∷ []; rows = (codes "===" ∷ []) ∷ [] }))
    × (table_in (text_lines (codes "| a |\n|---|\n|"))
    ≡ Some ([], record { columns = Default ∷ []; header = codes "a" ∷ []; rows = [] ∷ [] }))
unfolding table_words
lines_behind = (refl, refl)

-- cells past the columns go
gone : table_in (text_lines (codes "| a | b |\n|---|---|\n| `\\|` | [l](u) | gone |\n| [r] |"))
    ≡ Some (
      [],
      record {
        columns = Default ∷ Default ∷ [];
        header = codes "a" ∷ codes "b" ∷ [];
        rows = (codes "`|`" ∷ codes "[l](u)" ∷ []) ∷ (codes "[r]" ∷ []) ∷ [];
      },
    )
unfolding table_words
gone = refl

-- the lines before a table stay a paragraph
before : table_in (text_lines (codes "text\n[r]: /u\n| a |\n|---|"))
    ≡ Some (codes "text" ∷ codes "[r]: /u" ∷ [], record { columns = Default ∷ []; header = codes "a" ∷ []; rows = [] })
unfolding table_words
before = refl

-- the first pair of lines counts: what looks like another delimiter row is a row
first : table_in (text_lines (codes "a\n-\n-\nb"))
    ≡ Some ([], record { columns = Default ∷ []; header = codes "a" ∷ []; rows = (codes "-" ∷ []) ∷ (codes "b" ∷ []) ∷ [] })
unfolding table_words
first = refl

-- no table: other numbers of cells, no line before a delimiter row, no line behind another
none :
    (has_table (codes "| a | b |\n|---|") ≡ false)
    × (has_table (codes "| a |\n|---|---|") ≡ false)
    × (has_table (codes "|---|") ≡ false)
    × (has_table (codes "|\n|") ≡ false)
    × (has_table (codes "a\nb") ≡ false)
unfolding table_words
none = (refl, refl, refl, refl, refl)

-- a table may have 100 columns, and not 101
columns : has_table (concat (replicate 100 (codes "a|")) ++ codes "\n" ++ concat (replicate 100 (codes "-|"))) ≡ true
unfolding table_words
columns = refl

no_columns : has_table (concat (replicate 101 (codes "a|")) ++ codes "\n" ++ concat (replicate 101 (codes "-|"))) ≡ false
unfolding table_words
no_columns = refl
