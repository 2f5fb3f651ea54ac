-- Keys that are the same or not, and what maps have at them.
use Rattle.std.proofs.Common.{◌≡◌, ◌⊎◌, ℕ, List, Bool, true, false, cond, bytes_eq, is_some, inl, inr, refl, ap, sym, ◌∙◌}
use Rattle.std.specs.Prelude.{Option, Some, None, IfSome, option_map}
use Rattle.std.specs.Borrow.{Bor}
use Rattle.std.specs.Cmp.{tied_itself}
use Rattle.std.specs.Cmp.Lexicographic.{slice_cmp, texts_ties}
use Rattle.std.specs.FinMap as map
use Rattle.std.specs.Ordering.{nat_cmp, eq_by_cmp, is_eq}
use Rattle.std.specs.declared.cmp.Ordering.TheVariants.{Equal}
use Rattle.std.proofs.lemmas.Cmp.{nat_list_cmp_total}
use Rattle.std.proofs.lemmas.Map.Lookups.{exact_bytes}
use Rattle.std.proofs.lemmas.Option.{none-some, same_Some}
use Rattle.doc_store_readers.specs.Maps.{TextMap}
use Rattle.doc_page_parts.proofs.Orders.{is_eq_true}

-- whether two paths are the same key
abbrev pub same_key : List ℕ → List ℕ → Bool
same_key q k = eq_by_cmp (slice_cmp nat_cmp) q k

pub same_from : (q k : List ℕ) → same_key q k ≡ true → q ≡ k
same_from q k e = exact_bytes q k (is_eq_true (slice_cmp nat_cmp q k) e)

pub same_itself : (q : List ℕ) → same_key q q ≡ true
same_itself q = ap is_eq (tied_itself nat_list_cmp_total q)

pub bytes_eq_is : (q k : List ℕ) → bytes_eq q k ≡ same_key q k
bytes_eq_is q k = texts_ties q k

pub not_none : {A : Type 0} (x : A) → None ≡ Some x → ⊥
not_none x e = cc

pub some_is : {A : Type 0} (x y : A) → Some x ≡ Some y → x ≡ y
some_is x y e = cc

module _ {X : Type 0} (m : TextMap X) where
  pub get_set : (k : List ℕ) (v : X) (q : List ℕ) → map.get (map.insert m k v) q ≡ cond (same_key q k) (Some v) (map.get m q)
  get_set k v q = map.get-insert nat_list_cmp_total m k v q

  pub get_taken : (k q : List ℕ) → map.get (map.remove m k) q ≡ cond (same_key q k) None (map.get m q)
  get_taken k q = map.get-remove nat_list_cmp_total m k q

  -- what stands after a key was taken stood before, under another key
  pub stood : (k q : List ℕ) (v : X) → map.get (map.remove m k) q ≡ Some v → (same_key q k ≡ false) × (map.get m q ≡ Some v)
  stood k q v e = by (same_key q k) (sym (get_taken k q) ∙ e)
    where
      by : (b : Bool) → cond b None (map.get m q) ≡ Some v → (b ≡ false) × (map.get m q ≡ Some v)
      by true e = absurd (none-some v e)
      by false e = (refl, e)

  -- what stands after a key was set is the new value under that key, or stood before under another
  pub set_or_stood : (k : List ℕ) (w : X) (q : List ℕ) (v : X) → map.get (map.insert m k w) q ≡ Some v
      → ((same_key q k ≡ true) × (w ≡ v)) ⊎ ((same_key q k ≡ false) × (map.get m q ≡ Some v))
  set_or_stood k w q v e = by (same_key q k) (sym (get_set k w q) ∙ e)
    where
      by : (b : Bool) → cond b (Some w) (map.get m q) ≡ Some v → ((b ≡ true) × (w ≡ v)) ⊎ ((b ≡ false) × (map.get m q ≡ Some v))
      by true e = inl (refl, same_Some w v e)
      by false e = inr (refl, e)

  pub contains_set : (k : List ℕ) (v : X) (q : List ℕ) → map.contains_key (map.insert m k v) q
      ≡ cond (same_key q k) true (map.contains_key m q)
  contains_set k v q = ap is_some (get_set k v q) ∙ by (same_key q k)
    where
      by : (b : Bool) → is_some (cond b (Some v) (map.get m q)) ≡ cond b true (is_some (map.get m q))
      by true = refl
      by false = refl

  pub contains_taken : (k q : List ℕ) → map.contains_key (map.remove m k) q ≡ cond (same_key q k) false (map.contains_key m q)
  contains_taken k q = ap is_some (get_taken k q) ∙ by (same_key q k)
    where
      by : (b : Bool) → is_some (cond b None (map.get m q)) ≡ cond b false (is_some (map.get m q))
      by true = refl
      by false = refl

-- an entry that a look-up finds has the key that is looked for
pub entry_is : {X : Type 0} (path : List ℕ) (found : Option (Bor (List ℕ) × Bor X)) (value : Option X)
    → IfSome found (λ e. slice_cmp nat_cmp path e.0.now ≡ Equal)
    → option_map (λ e. e.1.now) found ≡ value → option_map (λ e. e.0.now) found ≡ option_map (λ _. path) value
entry_is path None value same e = ap (option_map (λ _. path)) e
entry_is path (Some entry) value same e = ap Some (sym (exact_bytes path entry.0.now same)) ∙ ap (option_map (λ _. path)) e
