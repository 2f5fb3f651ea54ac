-- Edits of an index in which each page is held under the same stamp.
use Rattle.std.proofs.Common.{◌≡◌, ℕ, List, Bool, true, false, cond, is_some, refl, ap, sym, ◌∙◌}
use Rattle.std.specs.Prelude.{IsTrue, Some, None}
use Rattle.std.specs.Ordering.{eq_by_cmp}
use Rattle.std.specs.FinMap as map
use Rattle.std.proofs.lemmas.Bool.{both_ways}
use Rattle.doc_index_tables.specs.Maps.{PairMap, pair_cmp}
use Rattle.doc_index_tables.proofs.PairSteps.{pair_is, pair_itself, pairs_total}
use Rattle.doc_links.specs.StampSteps.{HasStamp}

module _ {X : Type 0} (held : PairMap X) (n : ℕ) where
  pub once : HasStamp n held → (path : List ℕ) (stamp other : ℕ)
      → IsTrue (map.contains_key held (path, stamp)) → IsTrue (map.contains_key held (path, other)) → stamp ≡ other
  once all path stamp other a b = all path stamp a ∙ sym (all path other b)

  pub free : (k : List ℕ × ℕ) → map.get (map.remove held k) k ≡ None
  free k = map.get-remove pairs_total held k k ∙ ap (λ b. cond b None (map.get held k)) (pair_itself k)

  pub removed : HasStamp n held → (k : List ℕ × ℕ) → HasStamp n (map.remove held k)
  removed all k path stamp there = by (same k) (ap is_some (sym (map.get-remove pairs_total held k (path, stamp))) ∙ there)
    where
      same : List ℕ × ℕ → Bool
      same k = eq_by_cmp pair_cmp (path, stamp) k

      by : (b : Bool) → is_some (cond b None (map.get held (path, stamp))) ≡ true → stamp ≡ n
      by true none = absurd (both_ways false refl none)
      by false some = all path stamp some

  pub inserted : HasStamp n held → (path : List ℕ) (value : X) → HasStamp n (map.insert held (path, n) value)
  inserted all key value path stamp there =
      by same refl (ap is_some (sym (map.get-insert pairs_total held (key, n) value (path, stamp))) ∙ there)
    where
      same : Bool
      same = eq_by_cmp pair_cmp (path, stamp) (key, n)

      by : (b : Bool) → same ≡ b → is_some (cond b (Some value) (map.get held (path, stamp))) ≡ true → stamp ≡ n
      by true is some = ap (λ k. k.1) (pair_is (path, stamp) (key, n) is)
      by false other some = all path stamp some

-- no page is held under another stamp where none is held
pub none_held : (X : Type 0) (n : ℕ) → HasStamp {X = X} n map.empty
none_held X n path stamp here = absurd (both_ways false refl (sym (ap is_some (map.get-empty pair_cmp (path, stamp))) ∙ here))
