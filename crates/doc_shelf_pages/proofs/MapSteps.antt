-- Maps by path and stamp, each of whose values is changed by its path.
use Rattle.std.proofs.Common.{◌≡◌, ℕ, List, [], ◌∷◌, Bool, true, false, cond, is_some, refl, ap, sym, subst, ◌∙◌}
use Rattle.std.specs.Prelude.{Option, Some, None, option_map, map as mapped}
use Rattle.std.specs.FinMap as map
use Rattle.std.specs.List.Sorted.{IsStrictlySortedBy}
use Rattle.std.specs.Map.{keys_of}
use Rattle.doc_index_tables.specs.Maps.{PairMap, pair_cmp}
use Rattle.doc_index_tables.proofs.PairSteps.{pair_is, pairs_exact, pairs_total, same_pair}
use Rattle.doc_page_parts.proofs.Maps.{entries_in_order}
use Rattle.doc_store_readers.proofs.FilterSteps.{keys_in_order}
use Rattle.doc_shelf_pages.specs.Held.{HasOneStamp, by_path, with_each}

abbrev pub pathed : {X : Type 0} → (List ℕ × ℕ) × X → List ℕ × X
pathed entry = (entry.0.0, entry.1)

module _ {X Y : Type 0} (change : List ℕ → X → Y) where
  abbrev Entry : Type 0
  Entry = (List ℕ × ℕ) × X

  abbrev changed : Entry → (List ℕ × ℕ) × Y
  changed entry = (entry.0, change entry.0.0 entry.1)

  abbrev changed_page : List ℕ × X → List ℕ × Y
  changed_page page = (page.0, change page.0 page.1)

  found_each : (key : List ℕ × ℕ) (entries : List Entry)
      → map.find pair_cmp key (mapped changed entries) ≡ option_map (change key.0) (map.find pair_cmp key entries)
  found_each key [] = refl
  found_each key (entry ∷ entries) = by (same_pair key entry.0) refl (found_each key entries)
    where
      by : (b : Bool) → same_pair key entry.0 ≡ b
          → map.find pair_cmp key (mapped changed entries) ≡ option_map (change key.0) (map.find pair_cmp key entries)
          → cond b (Some (change entry.0.0 entry.1)) (map.find pair_cmp key (mapped changed entries))
          ≡ option_map (change key.0) (cond b (Some entry.1) (map.find pair_cmp key entries))
      by true same rest = ap (λ k. Some (change k.0 entry.1)) (sym (pair_is key entry.0 same))
      by false other rest = rest

  pub get-with_each : (values : PairMap X) (key : List ℕ × ℕ)
      → map.get (with_each change values) key ≡ option_map (change key.0) (map.get values key)
  unfolding with_each
  get-with_each values key =
      map.get-from_entries pairs_total (mapped changed (map.entries values)) key
      ∙ found_each key (map.entries values)
      ∙ ap (option_map (change key.0)) (sym (map.get-entries values key))

  same_keys : (entries : List Entry) → keys_of (mapped changed entries) ≡ keys_of entries
  same_keys [] = refl
  same_keys (entry ∷ entries) = ap (λ keys. entry.0 ∷ keys) (same_keys entries)

  pub entries-with_each : (values : PairMap X) → map.entries (with_each change values) ≡ mapped changed (map.entries values)
  unfolding with_each
  entries-with_each values =
      entries_in_order pairs_total pairs_exact (mapped changed (map.entries values))
      (subst (IsStrictlySortedBy pair_cmp) (sym (same_keys (map.entries values)))
      (keys_in_order pair_cmp (map.entries values) (map.entries_sorted values)))

  paths_each : (entries : List Entry) → mapped pathed (mapped changed entries) ≡ mapped changed_page (mapped pathed entries)
  paths_each [] = refl
  paths_each (entry ∷ entries) = ap (λ rest. (entry.0.0, change entry.0.0 entry.1) ∷ rest) (paths_each entries)

  -- the changed values by path
  pub by_path-with_each : (values : PairMap X) → by_path (with_each change values) ≡ mapped changed_page (by_path values)
  by_path-with_each values = ap (mapped pathed) (entries-with_each values) ∙ paths_each (map.entries values)

  same_key : (values : PairMap X) (key : List ℕ × ℕ) → map.contains_key (with_each change values) key ≡ map.contains_key values key
  same_key values key = ap is_some (get-with_each values key) ∙ by (map.get values key)
    where
      by : (o : Option X) → is_some (option_map (change key.0) o) ≡ is_some o
      by None = refl
      by (Some x) = refl

  pub one_stamp-with_each : (values : PairMap X) → HasOneStamp values → HasOneStamp (with_each change values)
  one_stamp-with_each values once path stamp other here there =
      once path stamp other (sym (same_key values (path, stamp)) ∙ here) (sym (same_key values (path, other)) ∙ there)
