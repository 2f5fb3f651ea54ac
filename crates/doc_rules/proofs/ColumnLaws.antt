-- The columns of a line are its characters, stand side by side, and a tab reaches the next stop.
use Rattle.std.proofs.Common.{◌≡◌, ℕ, ◌+◌, ◌-◌, ◌%◌, ◌≤◌, Bool, true, false, List, [], ◌∷◌, ◌++◌, map, refl, ap, arith}
use Rattle.std.specs.Prelude.{◌==◌, if◌then◌else◌}
use Rattle.std.specs.Bool.{MatchBool}
use Rattle.std.specs.List.{AllByRecursion}
use Rattle.doc_rules.specs.Characters.{Text}
use Rattle.doc_rules.specs.Columns.{Column, width_at, columns_from}
use Rattle.doc_rules.specs.Laws.{ColumnsSpell, total_width, ColumnsAreContiguous, IsWide, TabsReachStops}

spell : (text : Text) (at : ℕ) → map (λ column. column.char) (columns_from at text) ≡ text
unfolding columns_from
spell [] at = refl
spell (c ∷ rest) at = ap (λ more. c ∷ more) (spell rest (at + width_at c at))

pub columns_spell : ColumnsSpell
columns_spell line = spell line 0

contiguous : (text : Text) (at : ℕ) (before : List Column) (column : Column) (after : List Column) →
    columns_from at text ≡ before ++ column ∷ after → column.first ≡ at + total_width before
unfolding columns_from
contiguous [] at [] column after e = absurd cc
contiguous [] at (b ∷ before) column after e = absurd cc
contiguous (c ∷ rest) at [] column after e =
    let same : record { char = c; first = at; width = width_at c at } ≡ column = cc in
    let first : at ≡ column.first = ap (λ (x : Column). x.first) same in
    omega arith
contiguous (c ∷ rest) at (b ∷ before) column after e =
    let same : record { char = c; first = at; width = width_at c at } ≡ b = cc in
    let wide : width_at c at ≡ b.width = ap (λ (x : Column). x.width) same in
    let others : columns_from (at + width_at c at) rest ≡ before ++ column ∷ after = cc in
    let here : column.first ≡ (at + width_at c at) + total_width before = contiguous rest (at + width_at c at) before column after others in
    omega arith

pub columns_are_contiguous : ColumnsAreContiguous
columns_are_contiguous line before column after e = let here : column.first
    ≡ 0 + total_width before = contiguous line 0 before column after e in omega arith

wide : (c at : ℕ) (b : Bool) →
    MatchBool b (((at + (if b then 4 - at % 4 else 1)) % 4 ≡ 0) × (1 ≤ (if b then 4 - at % 4 else 1))
    × ((if b then 4 - at % 4 else 1) ≤ 4)) ((if b then 4 - at % 4 else 1) ≡ 1)
wide c at true = (omega arith, omega arith, omega arith)
wide c at false = refl

all_wide : (text : Text) (at : ℕ) → AllByRecursion IsWide (columns_from at text)
unfolding columns_from
all_wide [] at = tt
all_wide (c ∷ rest) at = (wide c at (c == 9), all_wide rest (at + width_at c at))

pub tabs_reach_stops : TabsReachStops
tabs_reach_stops line = all_wide line 0
