-- Sites whose maps are written out as lists of entries, and searches over counts that are, on which examples compute.
use Rattle.std.proofs.Common.{◌≡◌, ℕ, ◌*◌, ◌/◌, List, [], ◌∷◌, Bool, true, false, cond, T, is_some, length, map as mapped, refl, ap, ap₂}
use Rattle.std.proofs.Common.{sym, ◌∙◌}
use Rattle.std.specs.Prelude.{Option, option_and_then, sum_by, take, unwrap_or}
use Rattle.std.specs.Cmp.Lexicographic.{slice_cmp}
use Rattle.std.specs.FinMap as map
use Rattle.std.specs.FinMap.Entries.{is_sorted}
use Rattle.std.specs.List.{filter}
use Rattle.std.specs.Ordering.{nat_cmp}
use Rattle.std.proofs.lemmas.Cmp.{nat_list_cmp_total}
use Rattle.std.proofs.lemmas.List.{length-map}
use Rattle.std.proofs.lemmas.Simd.{map-map}
use Rattle.doc_page_parts.specs.declared.rendered.Rendered.{Rendered}
use Rattle.doc_store.proofs.SeenLaw.{entries-retain_keys}
use Rattle.doc_store_readers.specs.declared.reader.Reader.{Reader}
use Rattle.doc_store_readers.specs.Pages.{Page}
use Rattle.doc_store_readers.specs.Sites.{Site, View, may_see_at, view_of, visible_to}
use Rattle.doc_store.specs.Store.{StoreState}
use Rattle.doc_words_search.specs.Searches.{best, hits, holders, holds_all, quotient, ranked, score, search}
use Rattle.doc_words_search.specs.Words.{capped, count, page_words, word_counts}
use Rattle.doc_words_search.specs.declared.hit.Hit.{Hit}
use Rattle.doc_shelf_pages.specs.Held.{held_of, rendered_under}
use Rattle.doc_shelf_pages.specs.Views.{Renders}
use Rattle.doc_shelf_pages.proofs.HeldLaws.{get-held_of}

abbrev pub Entries : Type 0 → Type 0
Entries X = List (List ℕ × X)

abbrev pub at : {X : Type 0} → Entries X → List ℕ → Option X
at entries path = map.find (slice_cmp nat_cmp) path entries

abbrev pub InOrder : {X : Type 0} → Entries X → Type 0
InOrder entries = T (is_sorted (slice_cmp nat_cmp) entries)

abbrev pub site_of : Entries Page → Entries (List ℕ) → Site
site_of pages aliases = record { pages = map.from_sorted pages; aliases = map.from_sorted aliases }

-- what is seen of these pages and aliases
abbrev pub view_on : Entries Page → Entries (List ℕ) → Option Reader → View
view_on pages aliases reader = record {
  pages = filter (λ entry. may_see_at reader (at pages entry.0)) pages;
  aliases = filter (λ entry. may_see_at reader (option_and_then (at pages) (at aliases entry.0))) aliases;
}

module _ (pages : Entries Page) (aliases : Entries (List ℕ)) (sorted : InOrder pages) (also : InOrder aliases) where
  pages_at : (path : List ℕ) → map.get (site_of pages aliases).pages path ≡ at pages path
  pages_at path = map.get-from_sorted (slice_cmp nat_cmp) pages path sorted

  aliases_at : (path : List ℕ) → map.get (site_of pages aliases).aliases path ≡ at aliases path
  aliases_at path = map.get-from_sorted (slice_cmp nat_cmp) aliases path also

  -- the view is computed on the lists
  pub view_is : (reader : Option Reader) → view_of (site_of pages aliases) reader ≡ view_on pages aliases reader
  unfolding visible_to
  view_is reader = λ i. record { pages = some_pages i; aliases = some_aliases i }
    where
      some_pages : (view_of (site_of pages aliases) reader).pages ≡ (view_on pages aliases reader).pages
      some_pages =
          entries-retain_keys (site_of pages aliases).pages (λ path. may_see_at reader (map.get (site_of pages aliases).pages path))
          ∙ ap (filter (λ entry. may_see_at reader (map.get (site_of pages aliases).pages entry.0)))
          (map.entries-from_sorted (slice_cmp nat_cmp) pages sorted)
          ∙ (λ i. filter (λ entry. may_see_at reader (pages_at entry.0 i)) pages)

      some_aliases : (view_of (site_of pages aliases) reader).aliases ≡ (view_on pages aliases reader).aliases
      some_aliases =
          entries-retain_keys (site_of pages aliases).aliases (λ alias. may_see_at reader
          (option_and_then (map.get (site_of pages aliases).pages) (map.get (site_of pages aliases).aliases alias)))
          ∙ ap (filter (λ entry. may_see_at reader
          (option_and_then (map.get (site_of pages aliases).pages) (map.get (site_of pages aliases).aliases entry.0))))
          (map.entries-from_sorted (slice_cmp nat_cmp) aliases also)
          ∙ (λ i. filter (λ entry. may_see_at reader (option_and_then (λ path. pages_at path i) (aliases_at entry.0 i))) aliases)

  module _ (render : Renders) (stamps : Entries ℕ) (known : InOrder stamps) (puts : ℕ) where
    abbrev pub store_of : StoreState
    store_of = record { site = site_of pages aliases; stamps = map.from_sorted stamps; puts = puts }

    -- what is held is computed on the lists
    pub held_at : (path : List ℕ) (stamp : ℕ)
        → map.get (held_of render store_of) (path, stamp) ≡ rendered_under render stamp (at stamps path) (at pages path)
    held_at path stamp =
        get-held_of render store_of path stamp
        ∙ (λ i. rendered_under render stamp (map.get-from_sorted (slice_cmp nat_cmp) stamps path known i) (pages_at path i))

-- ---- searches

abbrev pub Counts : Type 0
Counts = Entries ℕ

-- the counts of the words of a page, written out: a word that comes again stands again
abbrev pub counts_of : Rendered → Counts
counts_of page = mapped (λ word. (word, count (page_words page) word)) (page_words page)

filter_mapped : {X Y : Type 0} (test : Y → Bool) (f : X → Y) (xs : List X)
    → filter test (mapped f xs) ≡ mapped f (filter (λ x. test (f x)) xs)
filter_mapped test f [] = refl
filter_mapped {X = X} {Y = Y} test f (x ∷ xs) = by (test (f x)) (filter_mapped test f xs)
  where
    by : (b : Bool) → filter test (mapped f xs) ≡ mapped f (filter (λ x. test (f x)) xs)
        → cond b (f x ∷ filter test (mapped f xs)) (filter test (mapped f xs))
        ≡ mapped f (cond b (x ∷ filter (λ y. test (f y)) xs) (filter (λ y. test (f y)) xs))
    by true rest = ap (λ ys. f x ∷ ys) rest
    by false rest = rest

-- a search tells of a page what is counted in it, and nothing else
module _ {X Y : Type 0} (known : X → Y) (counted : Y → List ℕ → Option ℕ) (pages : Entries X) where
  abbrev one : List ℕ × X → List ℕ × Y
  one page = (page.0, known page.1)

  abbrev count_in : X → List ℕ → Option ℕ
  count_in x word = counted (known x) word

  same_quotient : (word : List ℕ) → quotient counted (mapped one pages) word ≡ quotient count_in pages word
  same_quotient word =
      ap₂ (λ all some. all / some) (length-map pages one)
      (ap length (filter_mapped (λ page. is_some (counted page.1 word)) one pages)
      ∙ length-map (holders count_in pages word) one)

  same_score : (words : List (List ℕ)) (x : X) → score counted (mapped one pages) words (known x) ≡ score count_in pages words x
  same_score words x = λ i. capped (sum_by (λ word. capped (unwrap_or (count_in x word) 0 * same_quotient word i)) words)

  hit_by : List (List ℕ) → List ℕ × Y → Hit
  hit_by words page = record { path = page.0; score = score counted (mapped one pages) words page.1 }

  same_hits : (words : List (List ℕ)) → hits counted (mapped one pages) words ≡ hits count_in pages words
  unfolding hit_by
  same_hits words =
      ap (mapped (hit_by words)) (filter_mapped (λ page. holds_all counted words page.1) one pages)
      ∙ map-map (hit_by words) one (filter (λ page. holds_all count_in words page.1) pages)
      ∙ (λ i. mapped (λ page. record { path = page.0; score = same_score words page.1 i })
      (filter (λ page. holds_all count_in words page.1) pages))

  same_best : (words : List (List ℕ)) → best counted (mapped one pages) words ≡ best count_in pages words
  same_best words = ap (λ hs. take 100 (ranked hs)) (same_hits words)

-- a search over the words of pages is one over their counts written out
pub search_is : (pages : Entries Rendered) (words : List (List ℕ))
    → search (mapped (λ page. (page.0, word_counts page.1)) pages) words ≡ best at (mapped (λ page. (page.0, counts_of page.1)) pages) words
search_is pages words =
    same_best word_counts map.get pages words
    ∙ (λ i. best (λ page word. map.get-from_entries nat_list_cmp_total (counts_of page) word i) pages words)
    ∙ sym (same_best counts_of at pages words)
