-- A map whose keys are all keys of another is no larger.
use Rattle.std.proofs.Common.{◌≡◌, ℕ, ◌≤◌, List, length, true, ap, is_some, sym, ◌∙◌, subst}
use Rattle.std.specs.FinMap as map
use Rattle.std.specs.FinMap.Entries.{is_some-find}
use Rattle.std.specs.Cmp.Lexicographic.{slice_cmp}
use Rattle.std.specs.Map.{keys_of}
use Rattle.std.specs.Ordering.{nat_cmp}
use Rattle.std.proofs.lemmas.Cmp.{eq_by_cmp_equiv, nat_list_cmp_total}
use Rattle.std.proofs.lemmas.Map.Entries.{length-keys_of}
use Rattle.std.proofs.lemmas.Map.Keys.{IsDistinct-from_sorted}
use Rattle.std.proofs.lemmas.Map.Made.{length-le_from_is_member}
use Rattle.doc_store_readers.proofs.FilterSteps.{keys_in_order}
use Rattle.doc_store_readers.specs.Maps.{TextMap}

-- how many keys a map has
keys_counted : {X : Type 0} (m : TextMap X) → length (keys_of (map.entries m)) ≡ map.len m
keys_counted m = length-keys_of (map.entries m) ∙ sym (map.len-entries m)

pub no_larger : {X Y : Type 0} (m : TextMap X) (n : TextMap Y)
    → ((q : List ℕ) → map.contains_key m q ≡ true → map.contains_key n q ≡ true) → map.len m ≤ map.len n
no_larger m n within =
    subst (λ k. k ≤ map.len n) (keys_counted m)
    (subst (λ k. length (keys_of (map.entries m)) ≤ k) (keys_counted n)
    (length-le_from_is_member (eq_by_cmp_equiv nat_list_cmp_total) (keys_of (map.entries m)) (keys_of (map.entries n))
    (IsDistinct-from_sorted (slice_cmp nat_cmp) (keys_of (map.entries m))
    (keys_in_order (slice_cmp nat_cmp) (map.entries m) (map.entries_sorted m)))
    (λ q there. sym (is_some-find (slice_cmp nat_cmp) q (map.entries n))
    ∙ (ap is_some (sym (map.get-entries n q))
    ∙ within q (ap is_some (map.get-entries m q) ∙ (is_some-find (slice_cmp nat_cmp) q (map.entries m) ∙ there))))))
