-- What is held of the pages of a store, each under its path and its present stamp. All of this is this project's choice.
use Rattle.std.specs.Prelude.{◌≡◌, ℕ, List, IsTrue, Option, Some, None, option_map, map as mapped, ◌==◌, if◌then◌else◌}
use Rattle.std.specs.FinMap as map
use Rattle.std.specs.List.{filter_map}
use Rattle.doc_index_tables.specs.Maps.{PairMap, TextMap}
use Rattle.doc_links_pages.specs.declared.page_links.PageLinks.{PageLinks}
use Rattle.doc_page_parts.specs.declared.rendered.Rendered.{Rendered}
use Rattle.doc_store_readers.specs.Pages.{Page}
use Rattle.doc_store.specs.Store.{StoreState}
use Rattle.doc_words_search.specs.Words.{word_counts}
use Rattle.doc_shelf_pages.specs.Views.{Renders, links_in}

-- what the renderer makes of a page, under its path and the stamp that it has
abbrev pub held_entry : Renders → StoreState → List ℕ × Page → Option ((List ℕ × ℕ) × Rendered)
held_entry render store page = option_map (λ stamp. ((page.0, stamp), render page.1.text)) (map.get store.stamps page.0)

-- what the renderer makes of each page of a store, under the page's path and stamp, and nothing else
unfoldable pub held_of : Renders → StoreState → PairMap Rendered
held_of render store = map.from_entries (filter_map (held_entry render store) (map.entries store.site.pages))

-- a map with each of its values changed so, by its path
unfoldable pub with_each : {X Y : Type 0} → (List ℕ → X → Y) → PairMap X → PairMap Y
with_each change values = map.from_entries (mapped (λ entry. (entry.0, change entry.0.0 entry.1)) (map.entries values))

-- what an index of links holds of these pages
abbrev pub held_links : Renders → StoreState → PairMap PageLinks
held_links render store = with_each links_in (held_of render store)

-- what an index of words holds of these pages
abbrev pub held_words : Renders → StoreState → PairMap (TextMap ℕ)
held_words render store = with_each (λ path page. word_counts page) (held_of render store)

-- what is held by path, in the order of the paths and then of the stamps
abbrev pub by_path : {X : Type 0} → PairMap X → List (List ℕ × X)
by_path held = mapped (λ entry. (entry.0.0, entry.1)) (map.entries held)

-- each path has one stamp at most
abbrev pub HasOneStamp : {X : Type 0} → PairMap X → Type 0
HasOneStamp held =
    (path : List ℕ) (stamp other : ℕ) → IsTrue (map.contains_key held (path, stamp)) → IsTrue (map.contains_key held (path, other))
    → stamp ≡ other

-- what the renderer makes of a page, where its stamp is this one
abbrev pub rendered_under : Renders → ℕ → Option ℕ → Option Page → Option Rendered
rendered_under render stamp None page = None
rendered_under render stamp (Some present) None = None
rendered_under render stamp (Some present) (Some page) = if stamp == present then Some (render page.text) else None
