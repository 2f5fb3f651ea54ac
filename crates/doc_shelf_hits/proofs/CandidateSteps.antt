-- What a search knows of the pages of a view.
use Rattle.std.proofs.Common.{◌≡◌, ℕ, ◌+◌, ◌<◌, List, [], ◌∷◌, ◌++◌, length, take, get_or, Bool, true, false, refl, ap, ap₂, sym, subst, ◌∙◌, append-nil}
use Rattle.std.specs.Prelude.{Option, Some, None, IfSome, option_map, map as mapped, if◌then◌else◌}
use Rattle.std.specs.Cmp.{unsigned_tied}
use Rattle.std.specs.Cmp.Lexicographic.{slice_cmp}
use Rattle.std.specs.FinMap as map
use Rattle.std.specs.List.{AllByRecursion, flat_map}
use Rattle.std.specs.Ordering.{nat_cmp}
use Rattle.std.proofs.lemmas.Cmp.{nat_list_cmp_total}
use Rattle.std.proofs.lemmas.List.{take_more}
use Rattle.std.proofs.lemmas.List.Concat.{flat_map-append}
use Rattle.doc_index_tables.proofs.CountSteps.{number_itself}
use Rattle.doc_index_tables.proofs.EntrySteps.{each_found}
use Rattle.doc_page_parts.specs.declared.rendered.Heading.{Heading}
use Rattle.doc_page_parts.specs.declared.rendered.Rendered.{Rendered}
use Rattle.doc_people.proofs.CountLaws.{counts_are_sums}
use Rattle.doc_people.specs.Hits.{count_of, is_named}
use Rattle.doc_people.specs.Views.{rendered_at}
use Rattle.doc_people.specs.declared.term.Term.{Term}
use Rattle.doc_rows.specs.Looks.{from_text}
use Rattle.doc_rows.specs.Rows.{paths_in}
use Rattle.doc_shelf_pages.proofs.ViewSteps.{no_page}
use Rattle.doc_shelf_pages.specs.EditLaws.{Stands}
use Rattle.doc_shelf_pages.specs.Held.{rendered_under}
use Rattle.doc_shelf_pages.specs.KeptPages.{Kept, kept_of}
use Rattle.doc_shelf_pages.specs.Shelves.{IsKept, page_under}
use Rattle.doc_shelf_pages.specs.ViewLaws.{seen_in}
use Rattle.doc_shelf_pages.specs.Views.{Renders, rendered_pages}
use Rattle.doc_store.specs.Store.{StoreState}
use Rattle.doc_store_readers.proofs.FilterSteps.{keys_in_order}
use Rattle.doc_store_readers.proofs.ViewLaw.{entry_at-entries}
use Rattle.doc_store_readers.specs.Maps.{TextMap}
use Rattle.doc_store_readers.specs.Pages.{Page}
use Rattle.doc_store_readers.specs.Sites.{View, visible_to}
use Rattle.doc_store_readers.specs.declared.reader.Reader.{Reader}
use Rattle.doc_words_search.specs.Words.{capped, word_counts}
use Rattle.doc_shelf_hits.specs.Candidates.{Known, known, known_at, known_by, known_from, met_of, parts_by, parts_in}

-- ---- one page

-- what is known from what is kept of a page is what the definitions say of it
known_is : (terms : List Term) (path : List ℕ) (page : Rendered)
    → known_by terms path page.headings (map.entries (word_counts page)) ≡ known terms (path, page)
known_is terms path page =
    let same : (λ (term : Term). capped (met_of term (map.entries (word_counts page)))) ≡ count_of page
    = λ i term. sym (counts_are_sums page term) i in
    λ i. record { path = path; counts = mapped (same i) terms; named = is_named terms (path, page) }

-- the same where there may be none
pub known_from_is : (terms : List Term) (path : List ℕ) (parts : Option (List Heading × List (List ℕ × ℕ))) (page : Option Rendered)
    → parts ≡ option_map parts_in page → known_from terms path parts ≡ known_at terms path page
known_from_is terms path parts page is = ap (known_from terms path) is ∙ by page
  where
    by : (o : Option Rendered) → known_from terms path (option_map parts_in o) ≡ known_at terms path o
    by None = refl
    by (Some p) = ap (λ k. k ∷ []) (known_is terms path p)

-- what is kept of a page has its headings
parts_kept : (with_texts : Bool) (page : Rendered)
    → parts_by (Some (kept_of with_texts page)) (Some (map.entries (word_counts page))) ≡ Some (parts_in page)
parts_kept true page = refl
parts_kept false page = refl

under_own : (render : Renders) (stamp : ℕ) (page : Page) → rendered_under render stamp (Some stamp) (Some page) ≡ Some (render page.text)
under_own render stamp page = ap (λ b. if b then Some (render page.text) else None) (sym (unsigned_tied stamp stamp) ∙ number_itself stamp)

-- what is kept under the path and the stamp of a page that is seen
pub parts_are : (render : Renders) (store : StoreState) (kept : Kept) → IsKept render store kept
    → (path : List ℕ) (stamp : ℕ) (page : Page) → Stands store path stamp page → (seen : Option Page) → Some page ≡ seen
    → parts_by (map.get kept.renderings (path, stamp)) (option_map map.entries (map.get kept.words (path, stamp)))
    ≡ option_map parts_in (option_map (λ (p : Page). render p.text) seen)
parts_are render store kept k path stamp page here seen is =
    let under : page_under render store path stamp ≡ Some (render page.text)
    = ap (λ s. rendered_under render stamp s (map.get store.site.pages path)) here.stamped
    ∙ ap (rendered_under render stamp (Some stamp)) here.stands
    ∙ under_own render stamp page in
    ap (λ r. parts_by r (option_map map.entries (map.get kept.words (path, stamp))))
    (k.renderings path stamp ∙ ap (option_map (kept_of kept.with_texts)) under)
    ∙ ap (λ w. parts_by (Some (kept_of kept.with_texts (render page.text))) (option_map map.entries w))
    (k.words path stamp ∙ ap (option_map word_counts) under)
    ∙ parts_kept kept.with_texts (render page.text)
    ∙ ap (λ p. option_map parts_in (option_map (λ (q : Page). render q.text) p)) is

-- ---- all pages

-- no text comes before the empty one
all_from_empty : (texts : List (List ℕ)) → from_text [] texts ≡ texts
all_from_empty [] = refl
all_from_empty ([] ∷ texts) = ap (λ more. [] ∷ more) (all_from_empty texts)
all_from_empty ((byte ∷ text) ∷ texts) = ap (λ more. (byte ∷ text) ∷ more) (all_from_empty texts)

module _ (render : Renders) (store : StoreState) (reader : Reader) (terms : List Term) where
  abbrev view : View
  view = seen_in store reader

  abbrev pages : TextMap Page
  pages = (visible_to store.site (Some reader)).pages

  -- what is known of the page at a path
  abbrev pub known_in : List ℕ → List Known
  known_in path = known_at terms path (rendered_at render view path)

  abbrev rendered : List ℕ × Page → List ℕ × Rendered
  rendered entry = (entry.0, render entry.1.text)

  some_entries : (entries : List (List ℕ × Page))
      → AllByRecursion (λ entry. map.find (slice_cmp nat_cmp) entry.0 view.pages ≡ Some entry.1) entries
      → flat_map known_in (mapped (λ page. page.0) entries) ≡ mapped (known terms) (mapped rendered entries)
  some_entries [] there = refl
  some_entries (entry ∷ entries) there =
      ap (λ more. known_in entry.0 ++ more) (some_entries entries there.1)
      ∙ ap (λ page. known_at terms entry.0 (option_map (λ (p : Page). render p.text) page) ++ mapped (known terms)
      (mapped rendered entries))
      (entry_at-entries pages entry.0 ∙ map.get-entries pages entry.0 ∙ there.0)

  -- the pages at the paths that the reader sees are those of the reader's view
  pub all_known : (paths : List (List ℕ)) → paths ≡ from_text [] (paths_in view)
      → flat_map known_in paths ≡ mapped (known terms) (rendered_pages render view)
  all_known paths are =
      ap (flat_map known_in) (are ∙ all_from_empty (paths_in view))
      ∙ some_entries view.pages
      (each_found (slice_cmp nat_cmp) nat_list_cmp_total view.pages
      (keys_in_order (slice_cmp nat_cmp) view.pages (map.entries_sorted pages)))

-- ---- the walk

-- one more path
pub known_next : (known_in : List ℕ → List Known) (old new : List Known) (paths : List (List ℕ)) (at : ℕ) (path text : List ℕ)
    → at < length paths → path ≡ get_or paths at path → text ≡ path → new ≡ old ++ known_in text
    → old ≡ flat_map known_in (take at paths) → new ≡ flat_map known_in (take (at + 1) paths)
known_next known_in old new paths at path text within is same more before =
    more
    ∙ ap₂ (λ ks p. ks ++ known_in p) before (same ∙ is)
    ∙ ap (λ ks. flat_map known_in (take at paths) ++ ks) (sym (append-nil (known_in (get_or paths at path))))
    ∙ sym (flat_map-append known_in (take at paths) (get_or paths at path ∷ []))
    ∙ sym (ap (flat_map known_in) (take_more paths at path within))

-- what is said of a path that is there
pub where_some : {X : Type 0} (P : X → Type 0) (found : Option X) (one : X) → found ≡ Some one → IfSome found P → P one
where_some P found one is said = subst (λ o. IfSome o P) is said

-- where no page stands none is known
pub none_known : (render : Renders) (store : StoreState) (reader : Reader) (terms : List Term) (text : List ℕ) (old : List Known)
    → map.get store.site.pages text ≡ None → old ≡ old ++ known_at terms text (rendered_at render (seen_in store reader) text)
none_known render store reader terms text old none =
    sym (append-nil old)
    ∙ ap (λ page. old ++ known_at terms text (option_map (λ (p : Page). render p.text) page)) (no_page store.site reader text (sym none))
