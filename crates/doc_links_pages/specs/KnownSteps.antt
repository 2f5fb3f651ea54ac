-- How what is known of a page is kept: the anchors of its headings, and the counts of the paths that its links write.
use Rattle.std.specs.Prelude.{◌≡◌, ◌≢◌, ℕ, List, Some, count_by, unwrap_or}
use Rattle.std.specs.BTreeSet.{BTreeSet, contains}
use Rattle.std.specs.Cmp.Lexicographic.{slice_cmp}
use Rattle.std.specs.FinMap as map
use Rattle.std.specs.Ordering.{nat_cmp}
use Rattle.doc_index_tables.specs.Maps.{TextMap}
use Rattle.doc_page_parts.specs.declared.rendered.Heading.{Heading}
use Rattle.doc_resolve.specs.declared.link_kind.LinkKind.{LinkKind}
use Rattle.doc_links_pages.specs.Links.{has_anchor}
use Rattle.doc_links_pages.specs.Names.{writes}

-- these are the anchors of the headings
abbrev pub HasAnchors : List Heading → BTreeSet (List ℕ) → Type 0
HasAnchors headings anchors = (anchor : List ℕ) → contains (slice_cmp nat_cmp) anchors anchor ≡ has_anchor headings anchor

-- how often a path stands in counts
abbrev pub count_at : TextMap ℕ → List ℕ → ℕ
count_at counts path = unwrap_or (map.get counts path) 0

-- no count is 0
abbrev pub HasSome : TextMap ℕ → Type 0
HasSome counts = (path : List ℕ) → map.get counts path ≢ Some 0

-- these are the counts of the paths that links write, and of no others
abbrev pub HasKeys : List LinkKind → TextMap ℕ → Type 0
HasKeys links counts = ((path : List ℕ) → count_at counts path ≡ count_by (writes path) links) × HasSome counts
