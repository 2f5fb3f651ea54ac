-- Texts with numbers as keys.
use Rattle.std.proofs.Common.{◌≡◌, ℕ, List, Bool, true, ◌&&◌, refl, ap}
use Rattle.std.specs.declared.cmp.Ordering.{Ordering}
use Rattle.std.specs.declared.cmp.Ordering.TheVariants.{Less, Equal, Greater}
use Rattle.std.specs.Cmp.{IsTotalOrder}
use Rattle.std.specs.Cmp.Lexicographic.{slice_cmp}
use Rattle.std.specs.Ordering.{nat_cmp, is_eq, eq_by_cmp, ordering_then}
use Rattle.std.proofs.lemmas.Cmp.{nat_cmp_total, nat_list_cmp_total, on_total, then_total, tied_itself}
use Rattle.std.proofs.lemmas.Map.Lookups.{CmpEqualImpliesEq, exact_bytes, exact_pairs, exact_unsigned}
use Rattle.doc_index_tables.specs.Maps.{pair_cmp}
use Rattle.doc_index_tables.specs.TableSteps.{same_number, same_text}
use Rattle.doc_page_parts.proofs.Orders.{is_eq_true}

pub pairs_total : IsTotalOrder pair_cmp
pairs_total = then_total (on_total (λ (p : List ℕ × ℕ). p.0) nat_list_cmp_total) (on_total (λ (p : List ℕ × ℕ). p.1) nat_cmp_total)

pub pairs_exact : CmpEqualImpliesEq pair_cmp
pairs_exact = exact_pairs (slice_cmp nat_cmp) nat_cmp exact_bytes exact_unsigned

-- the same path and stamp
abbrev pub same_pair : List ℕ × ℕ → List ℕ × ℕ → Bool
same_pair p q = eq_by_cmp pair_cmp p q

pub both_same : (p q : List ℕ × ℕ) → same_pair p q ≡ (same_text p.0 q.0 && same_number p.1 q.1)
both_same p q = by (slice_cmp nat_cmp p.0 q.0)
  where
    by : (o : Ordering) → is_eq (ordering_then o (nat_cmp p.1 q.1)) ≡ (is_eq o && same_number p.1 q.1)
    by Less = refl
    by Equal = refl
    by Greater = refl

pub pair_is : (p q : List ℕ × ℕ) → same_pair p q ≡ true → p ≡ q
pair_is p q e = pairs_exact p q (is_eq_true (pair_cmp p q) e)

pub pair_itself : (p : List ℕ × ℕ) → same_pair p p ≡ true
pair_itself p = ap is_eq (tied_itself pairs_total p)
