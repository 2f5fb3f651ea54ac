-- Renderings that are kept of the pages of a view.
use Rattle.std.proofs.Common.{◌≡◌, ℕ, List, Bool, true, false, refl, ap, ap₂, ◌∙◌}
use Rattle.std.specs.Prelude.{Option, Some, None, option_map}
use Rattle.std.specs.FinMap as map
use Rattle.doc_page_parts.specs.Pages.{filled}
use Rattle.doc_page_parts.specs.declared.linker.Shown.{Shown}
use Rattle.doc_page_parts.specs.declared.rendered.Rendered.{Rendered}
use Rattle.doc_index_tables.specs.Maps.{PairMap}
use Rattle.doc_links_pages.specs.declared.page_links.PageLinks.{PageLinks}
use Rattle.doc_resolve.specs.Links.{kinds}
use Rattle.doc_shelf_pages.proofs.KeptEdits.{what_is_kept_is_held}
use Rattle.doc_shelf_pages.specs.EditLaws.{Stands}
use Rattle.doc_shelf_pages.specs.KeptPages.{Kept, kept_of}
use Rattle.doc_shelf_pages.specs.Shelves.{IsKept}
use Rattle.doc_shelf_pages.specs.Views.{Renders}
use Rattle.doc_store.specs.Store.{StoreState}
use Rattle.doc_store_readers.specs.Pages.{Page}

-- a page has nothing of its texts
filled_is : (how : List ℕ → Shown) (with_texts : Bool) (page : Rendered) → filled how (kept_of with_texts page) ≡ filled how page
unfolding filled
filled_is how true page = refl
filled_is how false page = refl

-- the HTML of a page, from what is kept of it
pub html_is : (how : List ℕ → Shown) (with_texts : Bool) (found page : Option Rendered)
    → found ≡ option_map (kept_of with_texts) page → option_map (filled how) found ≡ option_map (filled how) page
html_is how with_texts found page is = ap (option_map (filled how)) is ∙ by page
  where
    by : (o : Option Rendered) → option_map (filled how) (option_map (kept_of with_texts) o) ≡ option_map (filled how) o
    by None = refl
    by (Some p) = ap Some (filled_is how with_texts p)

-- what the links of a page lead to, from what is kept of it
pub links_kept : (render : Renders) (store : StoreState) (kept : Kept) (path : List ℕ) (stamp told : ℕ) (page : Page)
    (index : PairMap PageLinks) → IsKept render store kept → index ≡ kept.links → told ≡ stamp → Stands store path stamp page
    → option_map (λ (p : PageLinks). p.links) (map.get index (path, told)) ≡ Some (kinds path (render page.text).pieces)
links_kept render store kept path stamp told page index k same is stands =
    ap₂ (λ i s. option_map (λ (p : PageLinks). p.links) (map.get i (path, s))) same is
    ∙ ap (option_map (λ (p : PageLinks). p.links))
    ((what_is_kept_is_held render store kept k).links_of path stamp page stands)
