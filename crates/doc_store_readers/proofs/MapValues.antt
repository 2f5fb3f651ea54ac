-- Maps whose values are changed, and maps of sorted entries.
use Rattle.std.proofs.Common.{◌≡◌, ℕ, suc, ◌&&◌, subst, List, [], ◌∷◌, Bool, true, false, cond, T, length, map as mapped, refl, ap, sym}
use Rattle.std.proofs.Common.{◌∙◌, is_some}
use Rattle.std.specs.Prelude.{Option, Some, None, option_map}
use Rattle.std.specs.FinMap as map
use Rattle.std.specs.FinMap.Entries.{find, is_sorted, below_all}
use Rattle.std.specs.Cmp.Lexicographic.{slice_cmp}
use Rattle.std.specs.Ordering.{nat_cmp, eq_by_cmp, is_lt}
use Rattle.std.proofs.lemmas.Cmp.{nat_list_cmp_total}
use Rattle.std.proofs.lemmas.Map.Lookups.{exact_bytes}
use Rattle.doc_store_readers.specs.Maps.{TextMap, map_values}

module _ {X Y : Type 0} (f : X → Y) where
  option_map-cond : (b : Bool) (x : X) (o : Option X) → cond b (Some (f x)) (option_map f o) ≡ option_map f (cond b (Some x) o)
  option_map-cond true x o = refl
  option_map-cond false x o = refl

  option_map-none : (b : Bool) (o : Option X) → cond b None (option_map f o) ≡ option_map f (cond b None o)
  option_map-none true o = refl
  option_map-none false o = refl

  pub find-changed : (q : List ℕ) (es : List (List ℕ × X))
      → find (slice_cmp nat_cmp) q (mapped (λ entry. (entry.0, f entry.1)) es) ≡ option_map f (find (slice_cmp nat_cmp) q es)
  find-changed q [] = refl
  find-changed q (e ∷ es) =
      ap (cond (eq_by_cmp (slice_cmp nat_cmp) q e.0) (Some (f e.1))) (find-changed q es)
      ∙ option_map-cond (eq_by_cmp (slice_cmp nat_cmp) q e.0) e.1 (find (slice_cmp nat_cmp) q es)

  pub get-map_values : (m : TextMap X) (q : List ℕ) → map.get (map_values f m) q ≡ option_map f (map.get m q)
  unfolding map_values
  get-map_values m q =
      map.get-from_entries nat_list_cmp_total (mapped (λ entry. (entry.0, f entry.1)) (map.entries m)) q
      ∙ find-changed q (map.entries m)
      ∙ ap (option_map f) (sym (map.get-entries m q))

  pub map_values-insert : (m : TextMap X) (k : List ℕ) (v : X) → map_values f (map.insert m k v) ≡ map.insert (map_values f m) k (f v)
  map_values-insert m k v = map.same_map nat_list_cmp_total exact_bytes _ _ (λ q.
      get-map_values (map.insert m k v) q
      ∙ ap (option_map f) (map.get-insert nat_list_cmp_total m k v q)
      ∙ sym (option_map-cond (eq_by_cmp (slice_cmp nat_cmp) q k) v (map.get m q))
      ∙ ap (cond (eq_by_cmp (slice_cmp nat_cmp) q k) (Some (f v))) (sym (get-map_values m q))
      ∙ sym (map.get-insert nat_list_cmp_total (map_values f m) k (f v) q))

  pub map_values-remove : (m : TextMap X) (k : List ℕ) → map_values f (map.remove m k) ≡ map.remove (map_values f m) k
  map_values-remove m k = map.same_map nat_list_cmp_total exact_bytes _ _ (λ q.
      get-map_values (map.remove m k) q
      ∙ ap (option_map f) (map.get-remove nat_list_cmp_total m k q)
      ∙ sym (option_map-none (eq_by_cmp (slice_cmp nat_cmp) q k) (map.get m q))
      ∙ ap (cond (eq_by_cmp (slice_cmp nat_cmp) q k) None) (sym (get-map_values m q))
      ∙ sym (map.get-remove nat_list_cmp_total (map_values f m) k q))

  pub map_values-empty : map_values f map.empty ≡ map.empty
  map_values-empty = map.same_map nat_list_cmp_total exact_bytes _ _ (λ q.
      get-map_values map.empty q
      ∙ ap (option_map f) (map.get-empty (slice_cmp nat_cmp) q)
      ∙ sym (map.get-empty (slice_cmp nat_cmp) q))

  pub is_some-option_map : (o : Option X) → is_some (option_map f o) ≡ is_some o
  is_some-option_map None = refl
  is_some-option_map (Some x) = refl

  pub contains-map_values : (m : TextMap X) (q : List ℕ) → map.contains_key (map_values f m) q ≡ map.contains_key m q
  contains-map_values m q = ap is_some (get-map_values m q) ∙ is_some-option_map (map.get m q)

  below-changed : (k : List ℕ) (es : List (List ℕ × X)) → below_all (slice_cmp nat_cmp) k (mapped (λ entry. (entry.0, f entry.1)) es)
      ≡ below_all (slice_cmp nat_cmp) k es
  below-changed k [] = refl
  below-changed k (e ∷ es) = ap (λ b. is_lt (slice_cmp nat_cmp k e.0) && b) (below-changed k es)

  sorted-changed : (es : List (List ℕ × X)) → is_sorted (slice_cmp nat_cmp) (mapped (λ entry. (entry.0, f entry.1)) es)
      ≡ is_sorted (slice_cmp nat_cmp) es
  sorted-changed [] = refl
  sorted-changed (e ∷ es) = λ i. below-changed e.0 es i && sorted-changed es i

  length-changed : (es : List (List ℕ × X)) → length {A = List ℕ × Y} (mapped (λ entry. (entry.0, f entry.1)) es) ≡ length es
  length-changed [] = refl
  length-changed (e ∷ es) = ap (λ n. suc n) (length-changed es)

  -- the entries of a map whose values are changed are its entries, each with its value changed
  pub entries-map_values : (m : TextMap X) → map.entries (map_values f m) ≡ mapped (λ entry. (entry.0, f entry.1)) (map.entries m)
  entries-map_values m =
      let changed : List (List ℕ × Y) = mapped (λ entry. (entry.0, f entry.1)) (map.entries m) in
      let sorted : T (is_sorted (slice_cmp nat_cmp) changed) = subst T (sym (sorted-changed (map.entries m))) (map.entries_sorted m) in
      ap map.entries (map.same_map nat_list_cmp_total exact_bytes (map_values f m) (map.from_sorted changed) (λ q.
      get-map_values m q ∙ ap (option_map f) (map.get-entries m q) ∙ sym (find-changed q (map.entries m))
      ∙ sym (map.get-from_sorted (slice_cmp nat_cmp) changed q sorted)))
      ∙ map.entries-from_sorted (slice_cmp nat_cmp) changed sorted

  pub len-map_values : (m : TextMap X) → map.len (map_values f m) ≡ map.len m
  len-map_values m =
      map.len-entries (map_values f m) ∙ ap length (entries-map_values m) ∙ length-changed (map.entries m) ∙ sym (map.len-entries m)
