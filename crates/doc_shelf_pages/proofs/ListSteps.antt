-- The lists that a reader is answered, from what is kept of a store's pages.
use Rattle.std.proofs.Common.{◌≡◌, ℕ, List, [], ◌++◌, ◌∷◌, Bool, true, false, length, bytes_eq, refl, ap, sym, subst, ◌∙◌}
use Rattle.std.specs.Prelude.{Option, Some, None, is_some, if◌then◌else◌}
use Rattle.std.proofs.lemmas.Bool.{both_ways}
use Rattle.doc_index_tables.specs.Maps.{PairMap, TextMap}
use Rattle.doc_links_pages.specs.Links.{backlinks, broken_with, page_at as page_with_links}
use Rattle.doc_links_pages.specs.Names.{AreNames as WrittenNames}
use Rattle.doc_links_pages.specs.PageLinks.{IsOnce, pages_of as pages_with_links}
use Rattle.doc_links_pages.specs.declared.answers.Broken.{Broken}
use Rattle.doc_links_pages.specs.declared.page_links.PageLinks.{PageLinks}
use Rattle.doc_listings.specs.Listings.{backlinks_text, report_text}
use Rattle.std.proofs.lemmas.Simd.{map-map}
use Rattle.doc_page_parts.specs.declared.rendered.Rendered.{Rendered}
use Rattle.doc_store_readers.proofs.KeySteps.{bytes_eq_is, same_from, same_itself}
use Rattle.doc_page_parts.specs.Sights.{leads_to_itself, seen}
use Rattle.doc_shelf_pages.proofs.KeptEdits.{what_is_kept_is_held}
use Rattle.doc_shelf_pages.specs.Images.{images_behind}
use Rattle.doc_shelf_pages.specs.Shelves.{IsKept}
use Rattle.doc_shelf_pages.specs.KeptPages.{Kept}
use Rattle.doc_shelf_pages.proofs.HeldLaws.{each_is_held_once}
use Rattle.doc_shelf_pages.proofs.KnownLaws.{counts_of_seen, linked, names_of_targets}
use Rattle.doc_shelf_pages.proofs.ViewAnswers.{backlinks_are_the_views, broken_are_the_views, hits_are_the_views}
use Rattle.doc_shelf_pages.proofs.ViewAnswers.{links_are}
use Rattle.doc_shelf_pages.specs.Held.{held_links, held_words}
use Rattle.doc_shelf_pages.specs.ViewLaws.{links_seen, seen_in, words_seen}
use Rattle.doc_media.specs.Media.{Beside}
use Rattle.doc_media_links.specs.MediaLinks.{broken_beside}
use Rattle.doc_shelf_pages.specs.Views.{Renders, backlinks_body, backlinks_in, broken_in, hits_in, links_in, report_body}
use Rattle.doc_store.specs.Names.{AreNames, names_of}
use Rattle.doc_store_readers.specs.Pages.{Page}
use Rattle.doc_store_readers.specs.Sites.{View, goal_in, page_at}
use Rattle.doc_store.specs.Store.{StoreState, IsStore, is_goal}
use Rattle.doc_store_readers.specs.declared.reader.Reader.{Reader}
use Rattle.doc_words_search.specs.Searches.{search, pages_of as pages_with_words}
use Rattle.doc_words_search.specs.declared.hit.Hit.{Hit}

nothing : (page : Page) → None ≡ Some page → ⊥
nothing page e = cc

-- a page among others is found among what they link to
found_in : (render : Renders) (path : List ℕ) (page : Page) (pages : List (List ℕ × Page)) → page_at pages path ≡ Some page
    → is_some (page_with_links (linked render path page pages) path) ≡ true
found_in render path page [] there = absurd (nothing page there)
found_in render path page (first ∷ pages) there = by (bytes_eq first.0 path) (bytes_eq path first.0) refl refl there
    (found_in render path page pages)
  where
    by : (b c : Bool) → bytes_eq first.0 path ≡ b → bytes_eq path first.0 ≡ c
        → (if c then Some first.1 else page_at pages path) ≡ Some page
        → (page_at pages path ≡ Some page → is_some (page_with_links (linked render path page pages) path) ≡ true)
        → is_some (if b then Some (first.0, links_in first.0 (render first.1.text)) else page_with_links (linked render path page pages)
        path)
        ≡ true
    by true c same other e rest = refl
    by false false same other e rest = rest e
    by false true same other e rest =
        let is_first : path ≡ first.0 = same_from path first.0 (sym (bytes_eq_is path first.0) ∙ other) in
        absurd (both_ways (bytes_eq first.0 path) same
        (ap (λ q. bytes_eq first.0 q) is_first ∙ bytes_eq_is first.0 first.0 ∙ same_itself first.0))

is_led : (path : List ℕ) (goal : Option (List ℕ)) → is_goal path goal ≡ leads_to_itself goal path
is_led path None = refl
is_led path (Some goal) = refl

-- a text that was made behind nothing
pub made : (text out start more : List ℕ) → text ≡ out → out ≡ start ++ more → start ≡ [] → text ≡ more
made text out start more is added none = is ∙ added ∙ ap (λ s. s ++ more) none

-- what is seen of what is kept, asked by what a reader sees
abbrev linked_in : View → PairMap PageLinks → List (List ℕ × PageLinks)
linked_in view index = seen (goal_in view) (pages_with_links index)

abbrev counted_in : View → PairMap (TextMap ℕ) → List (List ℕ × TextMap ℕ)
counted_in view index = seen (goal_in view) (pages_with_words index)

module _ (render : Renders) (store : StoreState) (kept : Kept) (reader : Reader) (is : IsStore store) (k : IsKept render store kept)
    (view : View) (sees : view ≡ seen_in store reader) where
  module _ (index : PairMap PageLinks) (same : index ≡ kept.links) where
    held : index ≡ held_links render store
    held = same ∙ (what_is_kept_is_held render store kept k).links

    linked_are : linked_in view index ≡ links_seen store reader index
    linked_are = ap (λ v. linked_in v index) sees

    -- what is broken, where the index was told what stands behind the links of pages
    pub broken_are : (media : Beside) (links told : List Broken)
        → links ≡ broken_with (images_behind render store media) (goal_in view) (linked_in view index)
        → told ≡ broken_beside media links → told ≡ broken_in render (seen_in store reader) media
    broken_are media links told are unbroken =
        unbroken
        ∙ ap (broken_beside media) (are
        ∙ ap (λ v. broken_with (images_behind render store media) (goal_in v) (linked_in v index)) sees)
        ∙ broken_are_the_views render store reader index media is held

    pub report_is : (media : Beside) (links told : List Broken)
        → links ≡ broken_with (images_behind render store media) (goal_in view) (linked_in view index)
        → told ≡ broken_beside media links → report_text told ≡ report_body render (seen_in store reader) media
    report_is media links told are unbroken = ap report_text (broken_are media links told are unbroken)

    pub sources_are : (path : List ℕ) (sources : List (List ℕ × ℕ)) → sources ≡ backlinks (goal_in view) (linked_in view index) path
        → sources ≡ backlinks_in render (seen_in store reader) path
    sources_are path sources are =
        are ∙ ap (λ v. backlinks (goal_in v) (linked_in v index) path) sees
        ∙ backlinks_are_the_views render store reader index path is held

    pub backlinks_are : (path : List ℕ) (sources : List (List ℕ × ℕ)) → sources ≡ backlinks (goal_in view) (linked_in view index) path
        → backlinks_text sources ≡ backlinks_body render (seen_in store reader) path
    backlinks_are path sources are = ap backlinks_text (sources_are path sources are)

    pub is_once : IsOnce index
    is_once = subst IsOnce (sym held) (each_is_held_once render store).links

    -- ---- the page whose backlinks are asked for

    module _ (path : List ℕ) (page : Page) (there : page_at (seen_in store reader).pages path ≡ Some page) where
      seen_pages : linked_in view index ≡ linked render path page (seen_in store reader).pages
      seen_pages =
          linked_are
          ∙ ap (links_seen store reader) held
          ∙ links_are render store reader is
          ∙ map-map (λ (p : List ℕ × Rendered). (p.0, links_in p.0 p.1)) (λ (p : List ℕ × Page). (p.0, render p.1.text))
          (seen_in store reader).pages

      pub target_is : is_some (page_with_links (linked_in view index) path) ≡ true
      target_is =
          ap (λ pages. is_some (page_with_links pages path)) seen_pages ∙ found_in render path page (seen_in store reader).pages there

      pub names_are : (names : List (List ℕ)) → names ≡ names_of store.site path
          → WrittenNames names (goal_in view) (linked_in view index) path
      names_are names named =
          let known : AreNames (names_of store.site path) (goal_in (seen_in store reader)) path
          = (names_of_targets render store reader path page is there).names in
          subst (λ n. WrittenNames n (goal_in view) (linked_in view index) path) (sym named)
          (subst (λ v. WrittenNames (names_of store.site path) (goal_in v) (linked_in v index) path) (sym sees)
          (record {
            once = known.once;
            lead = λ name any. sym (is_led path (goal_in (seen_in store reader) name)) ∙ sym (known.all name) ∙ any;
            all = λ name writes leads. known.all name ∙ is_led path (goal_in (seen_in store reader) name) ∙ leads;
          }))

  module _ (index : PairMap (TextMap ℕ)) (same : index ≡ kept.words) where
    counted_are : counted_in view index ≡ words_seen store reader index
    counted_are = ap (λ v. counted_in v index) sees

    words_held : index ≡ held_words render store
    words_held = same ∙ (what_is_kept_is_held render store kept k).words

    pub hits_are : (words : List (List ℕ)) (hits : List Hit) → hits ≡ search (counted_in view index) words
        → hits ≡ hits_in render (seen_in store reader) words
    hits_are words hits are =
        are ∙ ap (λ pages. search pages words) counted_are ∙ hits_are_the_views render store reader index words is words_held

    pub count_is : length (seen_in store reader).pages ≡ length (counted_in view index)
    count_is = counts_of_seen render store reader index is words_held ∙ sym (ap length counted_are)
