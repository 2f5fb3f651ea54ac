-- Sorted entries, of which some are kept.
use Rattle.std.proofs.Common.{◌≡◌, List, [], ◌∷◌, Bool, true, false, cond, T}
use Rattle.std.specs.declared.cmp.Ordering.{Ordering}
use Rattle.std.specs.declared.cmp.Ordering.TheVariants.{Less}
use Rattle.std.specs.FinMap.Entries.{is_sorted}
use Rattle.std.specs.List.{AllByRecursion, filter}
use Rattle.std.specs.List.Sorted.{IsStrictlySortedBy}
use Rattle.std.specs.Map.{keys_of}
use Rattle.doc_page_parts.proofs.Maps.{is_sorted_keys}

module _ {K X : Type 0} (R : K → K → Ordering) where
  -- entries in order have keys in order
  pub keys_in_order : (es : List (K × X)) → T (is_sorted R es) → IsStrictlySortedBy R (keys_of es)
  keys_in_order = is_sorted_keys R

  one_after : (k : K) (b : Bool) (e : K × X) (es : List (K × X)) → R k e.0 ≡ Less → AllByRecursion (λ y. R k y ≡ Less) (keys_of es)
      → AllByRecursion (λ y. R k y ≡ Less) (keys_of (cond b (e ∷ es) es))
  one_after k true e es first rest = (first, rest)
  one_after k false e es first rest = rest

  after_some : (k : K) (p : K × X → Bool) (es : List (K × X)) → AllByRecursion (λ y. R k y ≡ Less) (keys_of es)
      → AllByRecursion (λ y. R k y ≡ Less) (keys_of (filter p es))
  after_some k p [] all = tt
  after_some k p (e ∷ es) all = one_after k (p e) e (filter p es) all.0 (after_some k p es all.1)

  one_more : (b : Bool) (e : K × X) (es : List (K × X)) → AllByRecursion (λ y. R e.0 y ≡ Less) (keys_of es)
      → IsStrictlySortedBy R (keys_of es) → IsStrictlySortedBy R (keys_of (cond b (e ∷ es) es))
  unfolding IsStrictlySortedBy
  one_more true e es first rest = (first, rest)
  one_more false e es first rest = rest

  -- those that are kept are in order
  pub some_in_order : (p : K × X → Bool) (es : List (K × X)) → IsStrictlySortedBy R (keys_of es)
      → IsStrictlySortedBy R (keys_of (filter p es))
  unfolding IsStrictlySortedBy
  some_in_order p [] sorted = tt
  some_in_order p (e ∷ es) sorted = one_more (p e) e (filter p es) (after_some e.0 p es sorted.0) (some_in_order p es sorted.1)
