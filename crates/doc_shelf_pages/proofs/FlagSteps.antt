-- Flags of pages: of each, in the order of the paths, whether a reader sees it.
use Rattle.std.proofs.Common.{◌≡◌, ℕ, List, [], ◌++◌, ◌∷◌, Bool, cond, codes, refl, ap, ap₂, sym, ◌∙◌}
use Rattle.std.specs.Prelude.{Option, Some, option_map, map as mapped}
use Rattle.std.specs.Cmp.Lexicographic.{slice_cmp}
use Rattle.std.specs.FinMap as map
use Rattle.std.specs.List.{AllByRecursion, filter}
use Rattle.std.specs.Ordering.{nat_cmp}
use Rattle.std.proofs.lemmas.Cmp.{nat_list_cmp_total}
use Rattle.std.proofs.lemmas.List.Folds.{flat_map-map}
use Rattle.doc_index_tables.specs.Maps.{PairMap, TextMap}
use Rattle.doc_index_tables.proofs.EntrySteps.{each_found}
use Rattle.doc_index_tables.proofs.PairSteps.{pairs_exact, pairs_total}
use Rattle.doc_links_pages.specs.Links.{contents, entry_of}
use Rattle.doc_links_pages.specs.PageLinks.{pages_of as pages_with_links}
use Rattle.doc_links_pages.specs.declared.page_links.PageLinks.{PageLinks}
use Rattle.doc_listings.specs.Listings.{contents_of_lines, entry_lines}
use Rattle.doc_page_parts.specs.Sights.{leads_to_itself}
use Rattle.doc_page_parts.specs.declared.rendered.Rendered.{Rendered}
use Rattle.doc_store.proofs.SightSteps.{itself_is}
use Rattle.doc_store.specs.Store.{StoreState, IsStore}
use Rattle.doc_store_readers.proofs.FilterSteps.{keys_in_order}
use Rattle.doc_store_readers.specs.Pages.{Page}
use Rattle.doc_store_readers.specs.Sites.{View, goal_in, may_see, may_see_at}
use Rattle.doc_store_readers.specs.declared.reader.Reader.{Reader}
use Rattle.doc_words_search.specs.Searches.{pages_of as pages_with_words}
use Rattle.doc_words_search.specs.Words.{word_counts}
use Rattle.doc_shelf_pages.proofs.HeldLaws.{by_path-held_of, what_is_held}
use Rattle.doc_shelf_pages.proofs.KeptEdits.{what_is_kept_is_held}
use Rattle.doc_shelf_pages.proofs.KeptSteps.{headings_of_kept}
use Rattle.doc_shelf_pages.proofs.MapSteps.{by_path-with_each, get-with_each}
use Rattle.doc_shelf_pages.proofs.ViewAnswers.{changed_seen}
use Rattle.doc_shelf_pages.specs.Held.{by_path, held_of, with_each}
use Rattle.doc_shelf_pages.specs.KeptPages.{Kept, kept_of}
use Rattle.doc_shelf_pages.specs.RenderingSteps.{flagged, lines_at}
use Rattle.doc_shelf_pages.specs.Shelves.{IsKept}
use Rattle.doc_shelf_pages.specs.ViewLaws.{seen_in}
use Rattle.doc_shelf_pages.specs.Views.{Renders, contents_body, linked_pages, links_in, rendered_pages}

-- pages whose flags a test set are those that it lets through
pub flagged_by : {X : Type 0} (test : X → Bool) (xs : List X) → flagged (mapped test xs) xs ≡ filter test xs
flagged_by test [] = refl
flagged_by test (x ∷ xs) = ap (λ ys. cond (test x) (x ∷ ys) ys) (flagged_by test xs)

-- ---- what flags say

-- whether a page leads to itself, by where paths lead
abbrev pub leads : {X : Type 0} → (List ℕ → Option (List ℕ)) → List ℕ × X → Bool
leads goals page = leads_to_itself (goals page.0) page.0

same_leads : {X Y : Type 0} (goals : List ℕ → Option (List ℕ)) (known : List ℕ × X → Y) (pages : List (List ℕ × X))
    → mapped (leads goals) pages ≡ mapped (leads goals) (mapped (λ page. (page.0, known page)) pages)
same_leads goals known [] = refl
same_leads goals known (page ∷ pages) = ap (λ flags. leads goals page ∷ flags) (same_leads goals known pages)

module _ (store : StoreState) (reader : Reader) (is : IsStore store) where
  abbrev goals : List ℕ → Option (List ℕ)
  goals = goal_in (seen_in store reader)

  abbrev sees : List ℕ × Page → Bool
  sees page = may_see (Some reader) page.1

  each_leads : (pages : List (List ℕ × Page))
      → AllByRecursion (λ page. map.find (slice_cmp nat_cmp) page.0 (map.entries store.site.pages) ≡ Some page.1) pages
      → mapped sees pages ≡ mapped (leads goals) pages
  each_leads [] found = refl
  each_leads (page ∷ pages) found =
      ap₂ (λ flag flags. flag ∷ flags)
      (sym (itself_is store.site is.site reader page.0
      ∙ ap (may_see_at (Some reader)) (map.get-entries store.site.pages page.0 ∙ found.0)))
      (each_leads pages found.1)

  -- the flags of a store's pages say of each whether it leads to itself for the reader
  flags_lead : mapped sees (map.entries store.site.pages) ≡ mapped (leads goals) (map.entries store.site.pages)
  flags_lead =
      let es = map.entries store.site.pages in
      each_leads es (each_found (slice_cmp nat_cmp) nat_list_cmp_total es
      (keys_in_order (slice_cmp nat_cmp) es (map.entries_sorted store.site.pages)))

  -- and so of what is held of them
  pub flags_of_held : {X : Type 0} (render : Renders) (change : List ℕ → Rendered → X)
      → mapped sees (map.entries store.site.pages) ≡ mapped (leads goals) (by_path (with_each change (held_of render store)))
  flags_of_held {X = X} render change =
      let one : List ℕ × Page → List ℕ × Rendered = λ page. (page.0, render page.1.text) in
      let then : List ℕ × Rendered → List ℕ × X = λ page. (page.0, change page.0 page.1) in
      flags_lead
      ∙ same_leads goals (λ page. render page.1.text) (map.entries store.site.pages)
      ∙ same_leads goals (λ page. change page.0 page.1) (mapped one (map.entries store.site.pages))
      ∙ sym (ap (mapped (leads goals)) (by_path-with_each change (held_of render store)
      ∙ ap (mapped then) (by_path-held_of render store is)))

-- ---- contents by flags

-- the lines of renderings as they are kept are those of the entries of their pages
kept_lines : (with_texts : Bool) (pages : List (List ℕ × Rendered))
    → mapped lines_at (mapped (λ page. (page.0, kept_of with_texts page.1)) pages)
    ≡ mapped entry_lines (mapped entry_of (mapped (λ page. (page.0, links_in page.0 page.1)) pages))
kept_lines with_texts [] = refl
kept_lines with_texts (page ∷ pages) =
    ap₂ (λ lines rest. lines ∷ rest)
    (ap (λ headings. entry_lines (record { path = page.0; headings = headings })) (headings_of_kept with_texts page.1))
    (kept_lines with_texts pages)

module _ (render : Renders) (store : StoreState) (kept : Kept) (reader : Reader) (is : IsStore store) (k : IsKept render store kept) where
  renderings_are : kept.renderings ≡ with_each (λ path page. kept_of kept.with_texts page) (held_of render store)
  renderings_are = map.same_map pairs_total pairs_exact kept.renderings _ (λ key.
      k.renderings key.0 key.1
      ∙ ap (option_map (λ page. kept_of kept.with_texts page)) (sym ((what_is_held render store).pages key.0 key.1))
      ∙ sym (get-with_each (λ path page. kept_of kept.with_texts page) (held_of render store) key))

  -- the lines of the pages that are seen
  lines_seen : (flags : List Bool) → flags ≡ mapped (λ page. may_see (Some reader) page.1) (map.entries store.site.pages)
      → mapped lines_at (flagged flags (by_path kept.renderings))
      ≡ mapped entry_lines (mapped entry_of (linked_pages render (seen_in store reader)))
  lines_seen flags are =
      let shown : List ℕ → Rendered → Rendered = λ path page. kept_of kept.with_texts page in
      let pages : List (List ℕ × Rendered) = by_path (with_each shown (held_of render store)) in
      ap₂ (λ fs m. mapped lines_at (flagged fs (by_path m))) (are ∙ flags_of_held store reader is render shown) renderings_are
      ∙ ap (mapped lines_at) (flagged_by (leads (goal_in (seen_in store reader))) pages
      ∙ changed_seen render store reader is shown)
      ∙ kept_lines kept.with_texts (rendered_pages render (seen_in store reader))

  pub contents_by_flags : (flags : List Bool) → flags ≡ mapped (λ page. may_see (Some reader) page.1) (map.entries store.site.pages)
      → (lines : List (List ℕ)) → lines ≡ mapped lines_at (flagged flags (by_path kept.renderings))
      → contents_of_lines lines ≡ contents_body render (seen_in store reader)
  unfolding contents
  contents_by_flags flags are lines is =
      ap contents_of_lines (is ∙ lines_seen flags are)
      ∙ ap (λ body. codes "<!DOCTYPE html>\n<title>Contents</title>\n<ul>\n" ++ body ++ codes "</ul>\n")
      (flat_map-map (λ lines. lines) entry_lines (mapped entry_of (linked_pages render (seen_in store reader))))

-- ---- what indexes are told

module _ (render : Renders) (store : StoreState) (kept : Kept) (reader : Reader) (is : IsStore store) (k : IsKept render store kept)
    (flags : List Bool) (are : flags ≡ mapped (λ page. may_see (Some reader) page.1) (map.entries store.site.pages)) where
  -- the flags say of what an index of links holds whether it is seen
  pub links_flagged : (view : View) → view ≡ seen_in store reader → (index : PairMap PageLinks) → index ≡ kept.links
      → flags ≡ mapped (leads (goal_in view)) (pages_with_links index)
  links_flagged view sees index same =
      are ∙ flags_of_held store reader is render links_in
      ∙ sym (ap₂ (λ v m. mapped (leads (goal_in v)) (pages_with_links m)) sees (same ∙ (what_is_kept_is_held render store kept k).links))

  -- and of what one of words holds
  pub words_flagged : (index : PairMap (TextMap ℕ)) → index ≡ kept.words
      → flags ≡ mapped (leads (goal_in (seen_in store reader))) (pages_with_words index)
  words_flagged index same =
      are ∙ flags_of_held store reader is render (λ path page. word_counts page)
      ∙ sym (ap (λ m. mapped (leads (goal_in (seen_in store reader))) (pages_with_words m))
      (same ∙ (what_is_kept_is_held render store kept k).words))
