-- A number above the last one of a list that rises.
use Rattle.std.proofs.Common.{◌≡◌, ◌≢◌, ℕ, ◌-◌, ◌<◌, ◌≤◌, List, length, get_or, refl, ap, sym, subst, ◌∙◌, arith, nat_cmp, lt-ltb}
use Rattle.std.specs.Prelude.{Err}
use Rattle.std.specs.List.Sorted.{IsBinarySearchResult}
use Rattle.std.specs.Ordering.{ordering_index}
use Rattle.std.specs.declared.cmp.Ordering.{Ordering}
use Rattle.std.specs.declared.cmp.Ordering.TheVariants.{Less, Equal, Greater}
use Rattle.std.proofs.lemmas.List.{get_or_read}

least : (o : Ordering) → ordering_index o ≤ 0 → o ≡ Less
least Less low = refl
least Equal low = absurd (omega (arith, low))
least Greater low = absurd (omega (arith, low))

module _ (first : ℕ) (es : List (ℕ × ℕ)) (n : ℕ) (same : n ≡ length es) where
  pub none_yet : n ≡ 0 → IsBinarySearchResult (λ pair. nat_cmp pair.0 first) es (Err n)
  none_yet none =
      λ rising. (λ k d from within. absurd (omega (arith, none, within)), λ k d from within. absurd (omega (arith, same, from, within)))

  pub last_below : (last : ℕ × ℕ) → n ≢ 0 → last ≡ get_or es (n - 1) last → last.0 < first
      → IsBinarySearchResult (λ pair. nat_cmp pair.0 first) es (Err n)
  last_below last some is low =
      λ rising. (
        λ k d from within.
            let at_end : get_or es (n - 1) d ≡ last = sym (get_or_read es (n - 1) last (omega (arith, some, same)) is d) in
            let less : nat_cmp last.0 first ≡ Less = rw (lt-ltb last.0 first low) refl in
            least (nat_cmp (get_or es k d).0 first)
            (subst (λ o. ordering_index (nat_cmp (get_or es k d).0 first) ≤ ordering_index o)
            (ap (λ pair. nat_cmp pair.0 first) at_end ∙ less)
            (rising k (n - 1) d (omega (arith, within)) (omega (arith, some, same)))),
        λ k d from within. absurd (omega (arith, same, from, within)),
      )
