-- A line whose first character is none of a delimiter row says no columns.
use Rattle.std.proofs.Common.{◌≡◌, ◌∙◌, ℕ, Bool, true, false, ◌==◌, List, [], ◌∷◌, refl, ap, sym, Option, Some, None}
use Rattle.std.specs.Prelude.{◌||◌, ◌&&◌, not, map, option_map, option_and_then}
use Rattle.std.specs.List.{list_all}
use Rattle.doc_rules.specs.Characters.{Text, is_space_or_tab, strip, strip_front, strip_end}
use Rattle.doc_rules.specs.declared.alignment.Alignment.{Alignment}
use Rattle.doc_rules.specs.Tables.{parts_behind, parts, without_pipe, without_blank_end, unescape_pipes, cells_of_line, aligned}
use Rattle.doc_rules.specs.Tables.{dashes, some_dashes, alignment_of, alignments_of, has_columns}
use Rattle.doc_tables.specs.ColumnSteps.{some_columns, columns_of, may_delimit}
use Rattle.doc_tables.proofs.AlignmentLaws.{same_alignment}
use Rattle.doc_tables.proofs.ColumnLaws.{Columns, size_of}

-- a character that none of these is
pub record IsOther (c : ℕ) : Type 0 where
  pub pipe : (c == 124) ≡ false
  pub colon : (c == 58) ≡ false
  pub dash : (c == 45) ≡ false
  pub space : is_space_or_tab c ≡ false

other_by : (a b d s t : Bool) → (a || (b || (d || (s || (t || false))))) ≡ false
    → (a ≡ false) × (b ≡ false) × (d ≡ false) × ((s || t) ≡ false)
other_by true b d s t e = absurd cc
other_by false true d s t e = absurd cc
other_by false false true s t e = absurd cc
other_by false false false true t e = absurd cc
other_by false false false false true e = absurd cc
other_by false false false false false e = (refl, refl, refl, refl)

other_is : (c : ℕ) (rest : Text) → may_delimit (c ∷ rest) ≡ false → IsOther c
other_is c rest e =
    let all = other_by (c == 124) (c == 58) (c == 45) (c == 32) (c == 9) e in
    record { pipe = all.0; colon = all.1; dash = all.2; space = all.3 }

-- ---- the first cell

strip_by : Bool → ℕ → Text → Text
strip_by b c rest = elim b [ true ↦ strip_front is_space_or_tab rest | false ↦ c ∷ rest ]

front_stays : (c : ℕ) (rest : Text) → is_space_or_tab c ≡ false → strip_front is_space_or_tab (c ∷ rest) ≡ c ∷ rest
unfolding strip_front strip_by
front_stays c rest e = ap (λ (b : Bool). strip_by b c rest) e

end_by : Bool → ℕ → Text → Text
end_by b c rest = elim b [ true ↦ [] | false ↦ c ∷ strip_end is_space_or_tab rest ]

end_stays : (c : ℕ) (rest : Text) → is_space_or_tab c ≡ false → strip_end is_space_or_tab (c ∷ rest) ≡ c ∷ strip_end is_space_or_tab rest
unfolding strip_end end_by
end_stays c rest e =
    ap (λ (b : Bool). end_by (b && list_all is_space_or_tab rest) c rest) e

cell_stays : (c : ℕ) (rest : Text) → is_space_or_tab c ≡ false
    → strip is_space_or_tab (c ∷ rest) ≡ c ∷ strip_end is_space_or_tab rest
cell_stays c rest e = ap (strip_end is_space_or_tab) (front_stays c rest e) ∙ end_stays c rest e

some_by : Bool → Option Bool → Option Bool
some_by b found = elim b [ true ↦ found | false ↦ None ]

alignment_by : Bool → Option Bool → Option Bool → Option Alignment
alignment_by b behind whole = elim b [ true ↦ option_map (aligned true) behind | false ↦ option_map (aligned false) whole ]

no_dashes : (c : ℕ) (rest : Text) → (c == 45) ≡ false → some_dashes (c ∷ rest) ≡ None
unfolding some_dashes some_by
no_dashes c rest e = ap (λ (b : Bool). some_by b (dashes rest)) e

no_alignment : (c : ℕ) (rest : Text) → IsOther c → alignment_of (c ∷ rest) ≡ None
unfolding alignment_of alignment_by
no_alignment c rest h =
    ap (λ (b : Bool). alignment_by b (some_dashes rest) (some_dashes (c ∷ rest))) h.colon
    ∙ ap (λ (o : Option Bool). option_map (aligned false) o) (no_dashes c rest h.dash)

cell_says_none : (c : ℕ) (rest : Text) → IsOther c → alignment_of (unescape_pipes (strip is_space_or_tab (c ∷ rest))) ≡ None
cell_says_none c rest h =
    same_alignment (strip is_space_or_tab (c ∷ rest)) ∙ ap alignment_of (cell_stays c rest h.space)
    ∙ no_alignment c (strip_end is_space_or_tab rest) h

-- ---- the line

pipe_by : Bool → ℕ → Text → Text
pipe_by b c rest = elim b [ true ↦ rest | false ↦ c ∷ rest ]

no_pipe : (c : ℕ) (rest : Text) → (c == 124) ≡ false → without_pipe (c ∷ rest) ≡ c ∷ rest
unfolding without_pipe pipe_by
no_pipe c rest e = ap (λ (b : Bool). pipe_by b c rest) e

parts_by : Bool → ℕ → Text → Text × List Text
parts_by b c rest = elim (b && not false) [
  | true ↦ ([], (parts_behind false rest).0 ∷ (parts_behind false rest).1)
  | false ↦ (c ∷ (parts_behind (c == 92) rest).0, (parts_behind (c == 92) rest).1)
]

parts_are : (c : ℕ) (rest : Text) → (c == 124) ≡ false
    → parts (c ∷ rest) ≡ (c ∷ (parts_behind (c == 92) rest).0) ∷ (parts_behind (c == 92) rest).1
unfolding parts parts_behind parts_by
parts_are c rest e = ap (λ (b : Bool). (parts_by b c rest).0 ∷ (parts_by b c rest).1) e

last_by : Bool → Text → List Text
last_by b part = elim b [ true ↦ [] | false ↦ part ∷ [] ]

first_stays : (c : ℕ) (part : Text) (more : List Text) → is_space_or_tab c ≡ false
    → (left : List Text) × (without_blank_end ((c ∷ part) ∷ more) ≡ (c ∷ part) ∷ left)
unfolding without_blank_end last_by
first_stays c part [] e = ([], ap (λ (b : Bool). last_by (b && list_all is_space_or_tab part) (c ∷ part)) e)
first_stays c part (next ∷ more) e = (without_blank_end (next ∷ more), refl)

alignments_by : Option Alignment → Option Columns → Option Columns
alignments_by found more = elim found [ None ↦ None | Some one ↦ option_map (λ rest. one ∷ rest) more ]

none_of_first : (cell : Text) (more : List Text) → alignment_of cell ≡ None → alignments_of (cell ∷ more) ≡ None
unfolding alignments_of alignments_by
none_of_first cell more e = ap (λ (o : Option Alignment). alignments_by o (alignments_of more)) e

other_says_none : (c : ℕ) (rest : Text) → IsOther c → alignments_of (cells_of_line (c ∷ rest)) ≡ None
unfolding cells_of_line
other_says_none c rest h =
    let part : Text = (parts_behind (c == 92) rest).0 in
    let left = first_stays c part (parts_behind (c == 92) rest).1 h.space in
    ap (λ (l : List Text). alignments_of (map (λ part. unescape_pipes (strip is_space_or_tab part)) (without_blank_end l)))
    (ap parts (no_pipe c rest h.pipe) ∙ parts_are c rest h.pipe)
    ∙ ap (λ (l : List Text). alignments_of (map (λ part. unescape_pipes (strip is_space_or_tab part)) l)) left.1
    ∙ none_of_first (unescape_pipes (strip is_space_or_tab (c ∷ part)))
    (map (λ part. unescape_pipes (strip is_space_or_tab part)) left.0) (cell_says_none c part h)

empty_says_none : columns_of (cells_of_line []) ≡ None
unfolding cells_of_line parts parts_behind without_pipe without_blank_end alignments_of has_columns
empty_says_none = refl

pub delimits_none : (line : Text) → may_delimit line ≡ false → None ≡ size_of (columns_of (cells_of_line line))
delimits_none [] e = sym (ap size_of empty_says_none)
delimits_none (c ∷ rest) e = sym (ap (λ (o : Option Columns). size_of (option_and_then some_columns o)) (other_says_none c rest
    (other_is c rest e)))
