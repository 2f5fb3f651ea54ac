-- What is held of the pages of a store.
use Rattle.std.proofs.Common.{◌≡◌, ℕ, List, [], ◌∷◌, Bool, true, false, cond, ◌&&◌, ◌||◌, ◌==◌, is_some, refl, ap, sym, ◌∙◌}
use Rattle.std.specs.Prelude.{Option, Some, None, option_map, unwrap_or, map as mapped, if◌then◌else◌}
use Rattle.std.specs.declared.cmp.Ordering.TheVariants.{Less}
use Rattle.std.specs.Cmp.{unsigned_tied}
use Rattle.std.specs.Cmp.Lexicographic.{slice_cmp}
use Rattle.std.specs.FinMap as map
use Rattle.std.specs.List.{AllByRecursion, cons_option, filter_map, list_any}
use Rattle.std.specs.List.Sorted.{IsStrictlySortedBy}
use Rattle.std.specs.Map.{keys_of}
use Rattle.std.specs.Ordering.{nat_cmp, ordering_then}
use Rattle.std.proofs.lemmas.Bool.{both_ways}
use Rattle.doc_page_parts.proofs.Bools.{or_true}
use Rattle.doc_index_tables.specs.Maps.{pair_cmp}
use Rattle.doc_index_tables.specs.TableSteps.{same_number}
use Rattle.doc_index_tables.proofs.CountSteps.{number_is}
use Rattle.doc_index.proofs.HeldSteps.{some_is}
use Rattle.doc_index_tables.proofs.PairSteps.{both_same, pairs_exact, pairs_total}
use Rattle.doc_page_parts.proofs.Maps.{entries_in_order}
use Rattle.doc_page_parts.specs.declared.rendered.Rendered.{Rendered}
use Rattle.doc_store_readers.proofs.FilterSteps.{keys_in_order}
use Rattle.doc_store_readers.proofs.KeySteps.{same_from, same_itself, same_key}
use Rattle.doc_store_readers.specs.Pages.{Page}
use Rattle.doc_store.specs.Store.{StoreState, IsStore}
use Rattle.doc_words_search.specs.Words.{word_counts}
use Rattle.doc_shelf_pages.specs.Held.{HasOneStamp, by_path, held_entry, held_of, rendered_under}
use Rattle.doc_shelf_pages.specs.ViewLaws.{EachIsHeldOnce, WhatIsHeld}
use Rattle.doc_shelf_pages.specs.Views.{Renders, links_in}
use Rattle.doc_shelf_pages.proofs.MapSteps.{get-with_each, one_stamp-with_each, pathed}

module _ (render : Renders) (store : StoreState) where
  abbrev Pages : Type 0
  Pages = List (List ℕ × Page)

  abbrev stamp_of : List ℕ → Option ℕ
  stamp_of path = map.get store.stamps path

  -- ---- by path and stamp

  under_none : (stamp : ℕ) (present : Option ℕ) → rendered_under render stamp present None ≡ None
  under_none stamp None = refl
  under_none stamp (Some present) = refl

  -- under another stamp nothing stands
  under_other : (stamp present : ℕ) (page : Option Page) → (stamp == present) ≡ false
      → rendered_under render stamp (Some present) page ≡ None
  under_other stamp present None other = refl
  under_other stamp present (Some page) other = ap (λ b. if b then Some (render page.text) else None) other

  module _ (path : List ℕ) (stamp : ℕ) where
    abbrev under : Option ℕ → Option Page → Option Rendered
    under present page = rendered_under render stamp present page

    -- an entry under a path and a stamp
    abbrev at_entry : Option ℕ → List ℕ × Page → List ((List ℕ × ℕ) × Rendered) → Option Rendered
    at_entry present page rest =
        map.find pair_cmp (path, stamp) (cons_option (option_map (λ s. ((page.0, s), render page.1.text)) present) rest)

    own : (page : List ℕ × Page) (present : ℕ) (here : Bool) (rest : Option Rendered) (more : Option Page) → (stamp == present) ≡ here
        → rest ≡ under (Some present) more → cond here (Some (render page.1.text)) rest ≡ under (Some present) (Some page.1)
    own page present true rest more same is = ap (λ b. if b then Some (render page.1.text) else None) (sym same)
    own page present false rest more other is =
        is ∙ under_other stamp present more other ∙ sym (under_other stamp present (Some page.1) other)

    at_page : (page : List ℕ × Page) (pages : Pages) (present : Option ℕ) (here : Bool)
        → stamp_of page.0 ≡ present → same_key path page.0 ≡ here
        → map.find pair_cmp (path, stamp) (filter_map (held_entry render store) pages)
        ≡ under (stamp_of path) (map.find (slice_cmp nat_cmp) path pages)
        → at_entry present page (filter_map (held_entry render store) pages)
        ≡ under (stamp_of path) (cond here (Some page.1) (map.find (slice_cmp nat_cmp) path pages))
    at_page page pages None true stamped same rest =
        let none : stamp_of path ≡ None = ap stamp_of (same_from path page.0 same) ∙ stamped in
        rest ∙ ap (λ s. under s (map.find (slice_cmp nat_cmp) path pages)) none ∙ ap (λ s. under s (Some page.1)) (sym none)
    at_page page pages (Some present) true stamped same rest =
        let some : stamp_of path ≡ Some present = ap stamp_of (same_from path page.0 same) ∙ stamped in
        let more : Option Rendered = map.find pair_cmp (path, stamp) (filter_map (held_entry render store) pages) in
        ap (λ b. cond b (Some (render page.1.text)) more)
        (both_same (path, stamp) (page.0, present) ∙ ap (λ b. b && same_number stamp present) same ∙ unsigned_tied stamp present)
        ∙ own page present (stamp == present) more (map.find (slice_cmp nat_cmp) path pages) refl
        (rest ∙ ap (λ s. under s (map.find (slice_cmp nat_cmp) path pages)) some)
        ∙ ap (λ s. under s (Some page.1)) (sym some)
    at_page page pages None false stamped other rest = rest
    at_page page pages (Some present) false stamped other rest =
        ap (λ b. cond b (Some (render page.1.text)) (map.find pair_cmp (path, stamp) (filter_map (held_entry render store) pages)))
        (both_same (path, stamp) (page.0, present) ∙ ap (λ b. b && same_number stamp present) other)
        ∙ rest

    found : (pages : Pages) → map.find pair_cmp (path, stamp) (filter_map (held_entry render store) pages)
        ≡ under (stamp_of path) (map.find (slice_cmp nat_cmp) path pages)
    found [] = sym (under_none stamp (stamp_of path))
    found (page ∷ pages) = at_page page pages (stamp_of page.0) (same_key path page.0) refl refl (found pages)

    pub get-held_of : map.get (held_of render store) (path, stamp) ≡ under (stamp_of path) (map.get store.site.pages path)
    unfolding held_of
    get-held_of =
        map.get-from_entries pairs_total (filter_map (held_entry render store) (map.entries store.site.pages)) (path, stamp)
        ∙ found (map.entries store.site.pages)
        ∙ ap (under (stamp_of path)) (sym (map.get-entries store.site.pages path))

    -- what stands under a stamp is a page that has it
    has_stamp : (present : Option ℕ) (page : Option Page) → is_some (under present page) ≡ true → present ≡ Some stamp
    has_stamp None page there = absurd (both_ways false refl there)
    has_stamp (Some present) None there = absurd (both_ways false refl there)
    has_stamp (Some present) (Some page) there = by (stamp == present) refl there
      where
        by : (b : Bool) → (stamp == present) ≡ b → is_some (if b then Some (render page.text) else None) ≡ true → Some present ≡ Some stamp
        by true same there = ap Some (sym (number_is stamp present (unsigned_tied stamp present ∙ same)))
        by false other there = absurd (both_ways false refl there)

  pub held_once : HasOneStamp (held_of render store)
  held_once path stamp other here there =
      some_is stamp other
      (sym (has_stamp path stamp (stamp_of path) (map.get store.site.pages path) (sym (ap is_some (get-held_of path stamp)) ∙ here))
      ∙ has_stamp path other (stamp_of path) (map.get store.site.pages path) (sym (ap is_some (get-held_of path other)) ∙ there))

  -- ---- all of it, where each page has a stamp

  abbrev stamp_or_none : List ℕ → ℕ
  stamp_or_none path = unwrap_or (stamp_of path) 0

  abbrev with_stamp : List ℕ × Page → (List ℕ × ℕ) × Rendered
  with_stamp page = ((page.0, stamp_or_none page.0), render page.1.text)

  abbrev AreStamped : Pages → Type 0
  AreStamped pages = AllByRecursion (λ path. is_some (stamp_of path) ≡ true) (keys_of pages)

  one_held : (page : List ℕ × Page) (present : Option ℕ) (rest : List ((List ℕ × ℕ) × Rendered)) → is_some present ≡ true
      → cons_option (option_map (λ s. ((page.0, s), render page.1.text)) present) rest
      ≡ ((page.0, unwrap_or present 0), render page.1.text) ∷ rest
  one_held page None rest there = absurd (both_ways false refl there)
  one_held page (Some present) rest there = refl

  all_held : (pages : Pages) → AreStamped pages → filter_map (held_entry render store) pages ≡ mapped with_stamp pages
  all_held [] stamped = refl
  all_held (page ∷ pages) stamped =
      one_held page (stamp_of page.0) (filter_map (held_entry render store) pages) stamped.0
      ∙ ap (λ rest. with_stamp page ∷ rest) (all_held pages stamped.1)

  before : (page : List ℕ × Page) (pages : Pages) → AllByRecursion (λ y. slice_cmp nat_cmp page.0 y ≡ Less) (keys_of pages)
      → AllByRecursion (λ y. pair_cmp (with_stamp page).0 y ≡ Less) (keys_of (mapped with_stamp pages))
  before page [] all = tt
  before page (other ∷ pages) all =
      (ap (λ o. ordering_then o (nat_cmp (stamp_or_none page.0) (stamp_or_none other.0))) all.0, before page pages all.1)

  in_order : (pages : Pages) → IsStrictlySortedBy (slice_cmp nat_cmp) (keys_of pages)
      → IsStrictlySortedBy pair_cmp (keys_of (mapped with_stamp pages))
  unfolding IsStrictlySortedBy
  in_order [] sorted = tt
  in_order (page ∷ pages) sorted = (before page pages sorted.0, in_order pages sorted.1)

  abbrev rendered : List ℕ × Page → List ℕ × Rendered
  rendered page = (page.0, render page.1.text)

  paths : (pages : Pages) → mapped pathed (mapped with_stamp pages) ≡ mapped rendered pages
  paths [] = refl
  paths (page ∷ pages) = ap (λ rest. (page.0, render page.1.text) ∷ rest) (paths pages)

  pub entries-held_of : AreStamped (map.entries store.site.pages)
      → map.entries (held_of render store) ≡ mapped with_stamp (map.entries store.site.pages)
  unfolding held_of
  entries-held_of stamped =
      ap (λ es. map.entries (map.from_entries {R = pair_cmp} es)) (all_held (map.entries store.site.pages) stamped)
      ∙ entries_in_order pairs_total pairs_exact (mapped with_stamp (map.entries store.site.pages))
      (in_order (map.entries store.site.pages) (keys_in_order (slice_cmp nat_cmp) (map.entries store.site.pages)
      (map.entries_sorted store.site.pages)))

  -- paths that are keys have stamps
  keys_stamped : (paths : List (List ℕ)) → ((path : List ℕ) → list_any (same_key path) paths ≡ true → is_some (stamp_of path) ≡ true)
      → AllByRecursion (λ path. is_some (stamp_of path) ≡ true) paths
  keys_stamped [] all = tt
  keys_stamped (path ∷ paths) all = (
    all path (ap (λ b. b || list_any (same_key path) paths) (same_itself path)),
    keys_stamped paths (λ other there. all other (ap (λ b. same_key other path || b) there ∙ or_true (same_key other path))),
  )

  pub all_stamped : IsStore store → AreStamped (map.entries store.site.pages)
  all_stamped is =
      keys_stamped (map.keys store.site.pages) (λ path there.
      is.stamped path ∙ map.contains_key-keys store.site.pages path ∙ there)

  -- what is held, by path: what the renderer makes of each page
  pub by_path-held_of : IsStore store → by_path (held_of render store) ≡ mapped rendered (map.entries store.site.pages)
  by_path-held_of is = ap (mapped pathed) (entries-held_of (all_stamped is)) ∙ paths (map.entries store.site.pages)

pub what_is_held : WhatIsHeld
what_is_held render store = record {
  pages = λ path stamp. get-held_of render store path stamp;
  links = λ path stamp. get-with_each links_in (held_of render store) (path, stamp);
  words = λ path stamp. get-with_each (λ path page. word_counts page) (held_of render store) (path, stamp);
}

pub each_is_held_once : EachIsHeldOnce
each_is_held_once render store = record {
  pages = held_once render store;
  links = one_stamp-with_each links_in (held_of render store) (held_once render store);
  words = one_stamp-with_each (λ path page. word_counts page) (held_of render store) (held_once render store);
}
