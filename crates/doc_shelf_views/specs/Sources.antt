-- Which pages of a view write one of a page's names, and what is kept of pages under their paths and stamps. All of this is this
-- project's choice.
use Rattle.std.specs.Prelude.{ℕ, List, [], ◌∷◌, filter, map as mapped, Bool, not, bytes_eq, Option, Some, None}
use Rattle.std.specs.FinMap as map
use Rattle.std.specs.List.{list_any}
use Rattle.doc_index_tables.specs.Maps.{PairMap}
use Rattle.doc_links.specs.IndexSteps.{links_to}
use Rattle.doc_links_pages.specs.Names.{writes}
use Rattle.doc_links_pages.specs.declared.page_links.PageLinks.{PageLinks}
use Rattle.doc_rows_links.specs.LinkRows.{Linking}
use Rattle.doc_store_readers.specs.Pages.{Page}
use Rattle.doc_store_readers.specs.Sites.{View}
use Rattle.doc_store.specs.Store.{StoreState}

-- ---- pages that write names

-- a page at a path writes one of these names
abbrev pub writes_one : Linking → List (List ℕ) → List ℕ × Page → Bool
writes_one linking names page = list_any (λ name. list_any (writes name) (linking page.0 page.1)) names

-- the paths of the pages of a view that write one of these names, in order
abbrev pub paths_writing_one : Linking → View → List (List ℕ) → List (List ℕ)
paths_writing_one linking view names = mapped (λ page. page.0) (filter (writes_one linking names) view.pages)

-- the same without one of them
abbrev pub others_writing : Linking → View → List (List ℕ) → List ℕ → List (List ℕ)
others_writing linking view names own = filter (λ path. not (bytes_eq path own)) (paths_writing_one linking view names)

-- ---- pages under their paths and stamps

-- a path with the stamp of its page, where one stands
abbrev pub stamped_by : List ℕ → Option Page → Option ℕ → List (List ℕ × ℕ)
stamped_by path None stamp = []
stamped_by path (Some page) None = []
stamped_by path (Some page) (Some stamp) = (path, stamp) ∷ []

abbrev pub stamped_at : StoreState → List ℕ → List (List ℕ × ℕ)
stamped_at store path = stamped_by path (map.get store.site.pages path) (map.get store.stamps path)

-- a path with the number of the links of its page that lead to a target
abbrev pub counted_at : (List ℕ → Option (List ℕ)) → List ℕ → PairMap PageLinks → List ℕ × ℕ → List ℕ × ℕ
counted_at goals target index place = (place.0, links_to goals target (map.get index place))
