-- What is known of pages for the sake of links, and how it is held.
use Rattle.std.specs.Prelude.{◌≡◌, ℕ, List, IsTrue, map as mapped}
use Rattle.std.specs.FinMap as map
use Rattle.doc_index_tables.specs.Maps.{PairMap}
use Rattle.doc_page_parts.specs.declared.rendered.Heading.{Heading}
use Rattle.doc_page_parts.specs.declared.rendered.Piece.{Piece}
use Rattle.doc_resolve.specs.Links.{kinds}
use Rattle.doc_links_pages.specs.declared.page_links.PageLinks.{PageLinks}

-- what is known of the page at this path, by its pieces and headings
abbrev pub page_links : List ℕ → List Piece → List Heading → PageLinks
page_links path pieces headings = record { links = kinds path pieces; headings = headings }

-- each path has one stamp at most
abbrev pub IsOnce : PairMap PageLinks → Type 0
IsOnce held =
    (path : List ℕ) (stamp other : ℕ)
    → IsTrue (map.contains_key held (path, stamp)) → IsTrue (map.contains_key held (path, other)) → stamp ≡ other

-- the pages that are held, by path and then by stamp
abbrev pub pages_of : PairMap PageLinks → List (List ℕ × PageLinks)
pages_of held = mapped (λ e. (e.0.0, e.1)) (map.entries held)
