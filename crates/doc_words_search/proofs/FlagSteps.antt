-- A search among the pages that are told to be seen.
use Rattle.std.proofs.Common.{◌≡◌, ℕ, suc, List, [], ◌∷◌, Bool, true, false, cond, length, IsTrue}
use Rattle.std.proofs.Common.{refl, ap, sym, subst, ◌∙◌, is_some, Less}
use Rattle.std.specs.Prelude.{Option, Some, None, map as mapped}
use Rattle.std.specs.FinMap as map
use Rattle.std.specs.List.{All, AllByRecursion}
use Rattle.std.specs.List.Sorted.{IsStrictlySortedBy}
use Rattle.std.proofs.lemmas.List.Elements.{All-from_recursion, recursion_from_All}
use Rattle.doc_index.specs.declared.held.Held.{Held}
use Rattle.doc_index.specs.Held.{entries_of, held, slot_at}
use Rattle.doc_index_tables.specs.Maps.{TextMap, pair_cmp}
use Rattle.std.specs.Map.{keys_of}
use Rattle.doc_page_parts.proofs.Maps.{is_sorted_keys}
use Rattle.doc_page_parts.specs.Sights.{leads_to_itself, seen}
use Rattle.doc_words_search.specs.Searches.{search}
use Rattle.doc_words_search.specs.SearchSteps.{AreInOrder, flagged, key_at, key_in, onto_page, pages_at, search_by}

-- what holds of all slots holds of those that are flagged
kept : (P : ℕ → Type 0) (flags : List Bool) (ns : List ℕ) → AllByRecursion P ns → AllByRecursion P (flagged flags ns)
kept P flags [] all = tt
kept P [] (n ∷ ns) all = tt
kept P (true ∷ flags) (n ∷ ns) all = (all.0, kept P flags ns all.1)
kept P (false ∷ flags) (n ∷ ns) all = kept P flags ns all.1

module _ {T : Type 0} (slots : List (Option (Held T))) where
  abbrev HasPage : ℕ → Type 0
  HasPage n = IsTrue (is_some (slot_at slots n))

  abbrev keys_at : List ℕ → List (List ℕ × ℕ)
  keys_at ns = mapped (key_at slots) ns

  below_kept : (key : List ℕ × ℕ) (flags : List Bool) (ns : List ℕ) → AllByRecursion (λ k. pair_cmp key k ≡ Less) (keys_at ns)
      → AllByRecursion (λ k. pair_cmp key k ≡ Less) (keys_at (flagged flags ns))
  below_kept key flags [] all = tt
  below_kept key [] (n ∷ ns) all = tt
  below_kept key (true ∷ flags) (n ∷ ns) all = (all.0, below_kept key flags ns all.1)
  below_kept key (false ∷ flags) (n ∷ ns) all = below_kept key flags ns all.1

  rise_kept : (flags : List Bool) (ns : List ℕ) → IsStrictlySortedBy pair_cmp (keys_at ns)
      → IsStrictlySortedBy pair_cmp (keys_at (flagged flags ns))
  unfolding IsStrictlySortedBy
  rise_kept flags [] rise = tt
  rise_kept [] (n ∷ ns) rise = tt
  rise_kept (true ∷ flags) (n ∷ ns) rise = (below_kept (key_at slots n) flags ns rise.0, rise_kept flags ns rise.1)
  rise_kept (false ∷ flags) (n ∷ ns) rise = rise_kept flags ns rise.1

  -- those that are flagged are in order as all are
  pub flagged_in_order : (flags : List Bool) (ns : List ℕ) → AreInOrder slots ns → AreInOrder slots (flagged flags ns)
  flagged_in_order flags ns order = record {
    present = All-from_recursion HasPage (flagged flags ns) (kept HasPage flags ns (recursion_from_All HasPage ns order.present));
    rise = rise_kept flags ns order.rise;
  }

  listed_keys : (ns : List ℕ) → AllByRecursion HasPage ns → keys_of (entries_of (mapped (slot_at slots) ns)) ≡ keys_at ns
  listed_keys [] all = refl
  listed_keys (n ∷ ns) all = by (slot_at slots n) all.0 (listed_keys ns all.1)
    where
      by : (o : Option (Held T)) → IsTrue (is_some o) → keys_of (entries_of (mapped (slot_at slots) ns)) ≡ keys_at ns
          → keys_of (entries_of (o ∷ mapped (slot_at slots) ns)) ≡ key_in o ∷ keys_at ns
      by None some ih = absurd cc
      by (Some page) some ih = ap (λ keys. (page.path, page.stamp) ∷ keys) ih

  -- slots that have the pages in the order of what is held
  pub held_in_order : (ns : List ℕ) → All HasPage ns → entries_of (mapped (slot_at slots) ns) ≡ map.entries (held slots)
      → AreInOrder slots ns
  held_in_order ns present is = record {
    present = present;
    rise = subst (IsStrictlySortedBy pair_cmp) (ap keys_of (sym is) ∙ listed_keys ns (recursion_from_All HasPage ns present))
        (is_sorted_keys pair_cmp (map.entries (held slots)) (map.entries_sorted (held slots)));
  }

  -- each of them has a page
  full : (ns : List ℕ) → AllByRecursion HasPage ns → length (pages_at slots ns) ≡ length ns
  full [] all = refl
  full (n ∷ ns) all = by (slot_at slots n) all.0 (full ns all.1)
    where
      by : (o : Option (Held T)) → IsTrue (is_some o) → length (pages_at slots ns) ≡ length ns
          → length (onto_page o (pages_at slots ns)) ≡ suc (length ns)
      by None some ih = absurd cc
      by (Some page) some ih = ap suc ih

  module _ (goals : List ℕ → Option (List ℕ)) where
    abbrev told : List (List ℕ × TextMap ℕ) → List Bool
    told pages = mapped (λ page. leads_to_itself (goals page.0) page.0) pages

    -- their pages are those that are seen
    flagged_seen : (ns : List ℕ) → AllByRecursion HasPage ns
        → pages_at slots (flagged (told (pages_at slots ns)) ns) ≡ seen goals (pages_at slots ns)
    flagged_seen [] all = refl
    flagged_seen (n ∷ ns) all = by (slot_at slots n) refl all.0 (flagged_seen ns all.1)
      where
        by : (o : Option (Held T)) → slot_at slots n ≡ o → IsTrue (is_some o)
            → pages_at slots (flagged (told (pages_at slots ns)) ns) ≡ seen goals (pages_at slots ns)
            → pages_at slots (flagged (told (onto_page o (pages_at slots ns))) (n ∷ ns)) ≡ seen goals (onto_page o (pages_at slots ns))
        by None e some ih = absurd cc
        by (Some page) e some ih = which (leads_to_itself (goals page.path) page.path)
          where
            which : (b : Bool) → pages_at slots (flagged (b ∷ told (pages_at slots ns)) (n ∷ ns))
                ≡ cond b ((page.path, page.counts) ∷ seen goals (pages_at slots ns)) (seen goals (pages_at slots ns))
            which true =
                ap (λ o. onto_page o (pages_at slots (flagged (told (pages_at slots ns)) ns))) e
                ∙ ap (λ ps. (page.path, page.counts) ∷ ps) ih
            which false = ih

    -- a search among them is one among the pages that are seen
    pub flagged_search : (flags : List Bool) (ns chosen : List ℕ) (all : List (List ℕ × TextMap ℕ)) (words : List (List ℕ)) (count : ℕ)
        → AreInOrder slots ns → chosen ≡ flagged flags ns → count ≡ length chosen → all ≡ pages_at slots ns → flags ≡ told all
        → search_by count (pages_at slots chosen) words ≡ search (seen goals all) words
    flagged_search flags ns chosen all words count order is counted listed are =
        let every : AllByRecursion HasPage ns = recursion_from_All HasPage ns order.present in
        let pages : pages_at slots chosen ≡ seen goals all
        = ap (pages_at slots) (is ∙ ap (λ fs. flagged fs ns) (are ∙ ap told listed)) ∙ flagged_seen ns every
        ∙ ap (seen goals) (sym listed) in
        let filled : length chosen ≡ length (pages_at slots chosen)
        = ap length is ∙ sym (full (flagged flags ns) (kept HasPage flags ns every)) ∙ ap (λ xs. length (pages_at slots xs)) (sym is) in
        ap (λ k. search_by k (pages_at slots chosen) words) (counted ∙ filled) ∙ ap (λ ps. search ps words) pages
