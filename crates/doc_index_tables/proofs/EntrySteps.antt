-- Entries of a map in the order of their keys.
use Rattle.std.proofs.Common.{String, string_bytes, ◌≡◌, List, [], ◌∷◌, cond, is_eq, ap, ◌∙◌}
use Rattle.std.specs.Prelude.{Some}
use Rattle.std.specs.declared.cmp.Ordering.{Ordering}
use Rattle.std.specs.declared.cmp.Ordering.TheVariants.{Less}
use Rattle.std.specs.Cmp.{IsTotalOrder, eq_by_cmp_equiv}
use Rattle.std.specs.Cmp.Lexicographic.{slice_cmp}
use Rattle.std.specs.FinMap as map
use Rattle.std.specs.List.{AllByRecursion}
use Rattle.std.specs.List.Sorted.{IsStrictlySortedBy}
use Rattle.std.specs.Map.{keys_of}
use Rattle.std.specs.String.{string_cmp}
use Rattle.std.specs.Ordering.{nat_cmp}
use Rattle.std.proofs.lemmas.Cmp.{tied_itself}
use Rattle.doc_index_tables.specs.Maps.{by_bytes}

module _ {K X : Type 0} (R : K → K → Ordering) where
  -- in sorted entries each is found
  found_later : IsTotalOrder R → (x : K × X) (es xs : List (K × X)) → AllByRecursion (λ y. R x.0 y ≡ Less) (keys_of xs)
      → AllByRecursion (λ e. map.find R e.0 es ≡ Some e.1) xs → AllByRecursion (λ e. map.find R e.0 (x ∷ es) ≡ Some e.1) xs
  found_later total x es [] before found = tt
  found_later total x es (e ∷ xs) before found = (
    ap (λ b. cond b (Some x.1) (map.find R e.0 es)) ((eq_by_cmp_equiv total).symm e.0 x.0 ∙ ap is_eq before.0) ∙ found.0,
    found_later total x es xs before.1 found.1,
  )

  pub each_found : IsTotalOrder R → (es : List (K × X)) → IsStrictlySortedBy R (keys_of es)
      → AllByRecursion (λ e. map.find R e.0 es ≡ Some e.1) es
  unfolding IsStrictlySortedBy
  each_found total [] sorted = tt
  each_found total (e ∷ es) sorted = (
    ap (λ o. cond (is_eq o) (Some e.1) (map.find R e.0 es)) (tied_itself total e.0),
    found_later total e es es sorted.0 (each_found total es sorted.1),
  )

-- `String` keys in order, by their bytes
module _ {A X : Type 0} where
  before_bytes : (k : String A) (es : List (String A × X)) → AllByRecursion (λ y. string_cmp k y ≡ Less) (keys_of es)
      → AllByRecursion (λ y. slice_cmp nat_cmp (string_bytes k) y ≡ Less) (keys_of (by_bytes es))
  before_bytes k [] before = tt
  before_bytes k (e ∷ es) before = (before.0, before_bytes k es before.1)

  -- entries in the order of their texts are so by their bytes
  pub sorted_bytes : (es : List (String A × X)) → IsStrictlySortedBy string_cmp (keys_of es)
      → IsStrictlySortedBy (slice_cmp nat_cmp) (keys_of (by_bytes es))
  unfolding IsStrictlySortedBy
  sorted_bytes [] sorted = tt
  sorted_bytes (e ∷ es) sorted = (before_bytes e.0 es sorted.0, sorted_bytes es sorted.1)
