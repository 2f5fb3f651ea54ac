-- Maps of rows: a path more or less in one of them, and what stands where then.
use Rattle.std.proofs.Common.{◌-◌, ◌≡◌, ℕ, List, [], ◌∷◌, cond, length, refl, ap, sym, ◌∙◌, arith}
use Rattle.std.specs.Prelude.{Some, None, is_some}
use Rattle.std.specs.Cmp.Lexicographic.{slice_cmp}
use Rattle.std.specs.FinMap as map
use Rattle.std.specs.Map.{keys_of}
use Rattle.std.specs.Ordering.{nat_cmp}
use Rattle.std.proofs.lemmas.Cmp.{nat_list_cmp_total}
use Rattle.doc_rows.specs.Rows.{RowMap, TextSet, left_in_row, set_or_empty, with_path}

-- a row that stands
module _ (rows : RowMap) (row : List ℕ) (paths : TextSet) (found : map.get rows row ≡ Some paths) where
  pub path_set : (path : List ℕ) → map.insert rows row (map.insert paths path tt) ≡ with_path rows row path
  path_set path = ap (λ o. map.insert rows row (map.insert (set_or_empty o) path tt)) (sym found)

  pub left_is : (path : List ℕ) → map.remove paths path ≡ left_in_row rows row path
  left_is path = ap (λ o. map.remove (set_or_empty o) path) (sym found)

abbrev no_paths : TextSet
no_paths = map.empty

-- no row leaves nothing
pub nothing_left : (rows : RowMap) (row path : List ℕ) → map.get rows row ≡ None → 0 ≡ map.len (left_in_row rows row path)
nothing_left rows row path none =
    sym (ap (λ o. map.len (map.remove (set_or_empty o) path)) none ∙ map.len-remove nat_list_cmp_total no_paths path
    ∙ ap (λ b. cond b (map.len no_paths - 1) (map.len no_paths)) (ap is_some (map.get-empty (slice_cmp nat_cmp) path))
    ∙ map.len-empty (slice_cmp nat_cmp) (Unit {0}))

-- nor has it keys
pub no_keys : map.keys no_paths ≡ []
no_keys = ap keys_of (nothing (map.entries no_paths) (sym (map.len-entries no_paths) ∙ map.len-empty (slice_cmp nat_cmp) (Unit {0})))
  where
    nothing : (es : List (List ℕ × Unit {0})) → length es ≡ 0 → es ≡ []
    nothing [] e = refl
    nothing (e ∷ es) is = absurd (omega arith)
