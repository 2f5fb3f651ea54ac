-- The images of the pages of a store: what is told of them by what is kept, and of those of the pages that a reader sees.
use Rattle.std.proofs.Common.{◌≡◌, ℕ, List, [], ◌∷◌, ◌++◌, ◌==◌, Bool, true, false, cond, append-nil, is_some, refl, ap, ap₂, sym, subst, ◌∙◌}
use Rattle.std.specs.Prelude.{Option, Some, None, IsTrue, option_map, if◌then◌else◌}
use Rattle.std.specs.Cmp.Lexicographic.{slice_cmp}
use Rattle.std.specs.FinMap as map
use Rattle.std.specs.List.{AllByRecursion, flat_map}
use Rattle.std.specs.Ordering.{nat_cmp}
use Rattle.std.proofs.lemmas.Bool.{true≢false}
use Rattle.std.proofs.lemmas.Cmp.{nat_list_cmp_total}
use Rattle.std.proofs.lemmas.List.Folds.{flat_map-map}
use Rattle.doc_index.proofs.HeldSteps.{not_some}
use Rattle.doc_index_tables.proofs.EntrySteps.{each_found}
use Rattle.doc_index_tables.specs.Maps.{PairMap}
use Rattle.doc_links_pages.specs.Links.{broken_from, broken_with}
use Rattle.doc_links_pages.specs.declared.answers.Broken.{Broken}
use Rattle.doc_links_pages.specs.declared.page_links.PageLinks.{PageLinks}
use Rattle.doc_links_seen.specs.Tellers.{AreToldOf}
use Rattle.doc_media.specs.Media.{Beside, Media, beside_of}
use Rattle.doc_media_links.proofs.ImageLaws.{pages_without_images, told_page_by_page}
use Rattle.doc_media_links.specs.Images.{broken_images, told_of}
use Rattle.doc_media_links.specs.MediaLinks.{broken_beside}
use Rattle.doc_page_parts.specs.declared.rendered.Rendered.{Rendered}
use Rattle.doc_store.specs.Store.{StoreState}
use Rattle.doc_store_readers.proofs.FilterSteps.{keys_in_order}
use Rattle.doc_store_readers.proofs.ViewLaw.{get-visible_pages}
use Rattle.doc_store_readers.specs.Pages.{Page}
use Rattle.doc_store_readers.specs.Sites.{goal_in, may_see_at, view_of, visible_to}
use Rattle.doc_store_readers.specs.declared.reader.Reader.{Reader}
use Rattle.doc_shelf_pages.specs.Held.{rendered_under}
use Rattle.doc_shelf_pages.specs.Images.{images_behind, images_made, images_of, told_images}
use Rattle.doc_shelf_pages.specs.KeptPages.{Kept, kept_of}
use Rattle.doc_shelf_pages.specs.RenderingSteps.{HasNoImages}
use Rattle.doc_shelf_pages.specs.Shelves.{IsKept}
use Rattle.doc_shelf_pages.specs.Views.{Renders, linked_pages, links_in, rendered_pages}
use Rattle.doc_shelf_pages.proofs.KeptSteps.{images_of_kept}

-- ---- by what is kept

-- of a rendering without images none is told
pub none_told : (media : Beside) (path : List ℕ) (pages : PairMap Rendered) (k : List ℕ × ℕ) → HasNoImages pages
    → told_images media path (map.get pages k) ≡ []
none_told media path pages k bare = by (map.get pages k) refl
  where
    by : (page : Option Rendered) → map.get pages k ≡ page → told_images media path page ≡ []
    by None at = refl
    by (Some page) at = ap (broken_images media path) (bare k page at) ∙ pages_without_images media path

-- nor of any where there are no media
pub none_without_media : (path : List ℕ) (page : Option Rendered) → told_images None path page ≡ []
unfolding broken_images
none_without_media path None = refl
none_without_media path (Some page) = refl

pub no_media : (all : List Broken) (media : Media) (reader : Reader) (path : List ℕ) (page : Option Rendered)
    → is_some media ≡ false → all ≡ all ++ told_images (beside_of media (Some reader)) path page
no_media all None reader path page none = sym (append-nil all) ∙ ap (λ more. all ++ more) (sym (none_without_media path page))
no_media all (Some held) reader path page none = absurd (true≢false none)

module _ (render : Renders) (store : StoreState) (kept : Kept) (k : IsKept render store kept) (media : Beside) where
  abbrev under : ℕ → Option ℕ → Option Page → Option Rendered
  under stamp present page = rendered_under render stamp present page

  -- what is told of the page under a path and a stamp where it has links is told of the page at that path
  images_stand : (path : List ℕ) (stamp : ℕ) (present : Option ℕ) (page : Option Page)
      → IsTrue (is_some (option_map (links_in path) (under stamp present page)))
      → told_images media path (option_map (kept_of kept.with_texts) (under stamp present page))
      ≡ broken_images media path (images_made render page)
  images_stand path stamp None page there = absurd (true≢false (sym there))
  images_stand path stamp (Some present) None there = absurd (true≢false (sym there))
  images_stand path stamp (Some present) (Some page) there = by (stamp == present) there
    where
      by : (b : Bool) → IsTrue (is_some (option_map (links_in path) (if b then Some (render page.text) else None)))
          → told_images media path (option_map (kept_of kept.with_texts) (if b then Some (render page.text) else None))
          ≡ broken_images media path (render page.text).images
      by true there = ap (broken_images media path) (images_of_kept kept.with_texts (render page.text))
      by false there = absurd (true≢false (sym there))

  pub images_told : (index : PairMap PageLinks) → index ≡ kept.links
      → AreToldOf (λ path stamp. told_images media path (map.get kept.renderings (path, stamp))) (images_behind render store media) index
  images_told index same path stamp there =
      ap (told_images media path) (k.renderings path stamp)
      ∙ images_stand path stamp (map.get store.stamps path) (map.get store.site.pages path)
      (subst IsTrue (ap (λ m. map.contains_key m (path, stamp)) same ∙ ap is_some (k.links path stamp)) there)

-- ---- of the pages that are seen

module _ (render : Renders) (store : StoreState) (reader : Reader) where
  abbrev pages_in : List (List ℕ × Page)
  pages_in = (view_of store.site (Some reader)).pages

  -- a page that is seen stands in the site
  stands : (page : List ℕ × Page) → map.find (slice_cmp nat_cmp) page.0 pages_in ≡ Some page.1
      → map.get store.site.pages page.0 ≡ Some page.1
  stands page at =
      by (may_see_at (Some reader) (map.get store.site.pages page.0))
      (sym (get-visible_pages store.site (Some reader) page.0)
      ∙ map.get-entries (visible_to store.site (Some reader)).pages page.0 ∙ at)
    where
      by : (b : Bool) → cond b (map.get store.site.pages page.0) None ≡ Some page.1 → map.get store.site.pages page.0 ≡ Some page.1
      by true is = is
      by false is = absurd (not_some page.1 is)

  module _ (media : Beside) (told : List ℕ × Rendered → List Broken) where
    -- the images of each are those of its text
    each_told : (pages : List (List ℕ × Page))
        → AllByRecursion (λ page. map.find (slice_cmp nat_cmp) page.0 pages_in ≡ Some page.1) pages
        → flat_map (λ page. told (page.0, render page.1.text) ++ broken_images media page.0 (images_of render store page.0)) pages
        ≡ flat_map (λ page. told (page.0, render page.1.text) ++ broken_images media page.0 (render page.1.text).images) pages
    each_told [] found = refl
    each_told (page ∷ pages) found =
        ap₂ (λ own rest. (told (page.0, render page.1.text) ++ broken_images media page.0 (images_made render own)) ++ rest)
        (stands page found.0) (each_told pages found.1)

  pub seen_told : (media : Beside)
      → broken_beside media (broken_with (images_behind render store media) (goal_in (view_of store.site (Some reader)))
      (linked_pages render (view_of store.site (Some reader))))
      ≡ flat_map (told_of (goal_in (view_of store.site (Some reader))) (linked_pages render (view_of store.site (Some reader))) media)
      (rendered_pages render (view_of store.site (Some reader)))
  seen_told media =
      let view = view_of store.site (Some reader) in
      let one : List ℕ × Page → List ℕ × Rendered = λ page. (page.0, render page.1.text) in
      let linked : List ℕ × Rendered → List ℕ × PageLinks = λ page. (page.0, links_in page.0 page.1) in
      let links : List ℕ × PageLinks → List Broken
      = λ page. broken_beside media (broken_from (goal_in view) (linked_pages render view) page.0 1 page.1.links) in
      told_page_by_page (goal_in view) media (images_of render store) (linked_pages render view)
      ∙ flat_map-map (λ page. links page ++ broken_images media page.0 (images_of render store page.0)) linked (rendered_pages render view)
      ∙ flat_map-map (λ page. links (linked page) ++ broken_images media page.0 (images_of render store page.0)) one view.pages
      ∙ each_told media (λ page. links (linked page)) view.pages
      (each_found (slice_cmp nat_cmp) nat_list_cmp_total view.pages
      (keys_in_order (slice_cmp nat_cmp) view.pages (map.entries_sorted (visible_to store.site (Some reader)).pages)))
      ∙ sym (flat_map-map (told_of (goal_in view) (linked_pages render view) media) one view.pages)
