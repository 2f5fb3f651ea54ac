-- Rows by link: for each path that links write, the rows of the pages that write it. All of this is this project's choice.
use Rattle.std.specs.Prelude.{◌≡◌, ℕ, List, Bool, true, false, Option, Some, None, filter, map as mapped, if◌then◌else◌}
use Rattle.std.specs.FinMap as map
use Rattle.std.specs.List.{list_any}
use Rattle.doc_links_pages.specs.Names.{writes}
use Rattle.doc_resolve.specs.declared.link_kind.LinkKind.{LinkKind}
use Rattle.doc_rows.specs.Rows.{IsRows, IsWider, RowMap, TextSet, groups_at}
use Rattle.doc_store_readers.specs.Maps.{TextMap}
use Rattle.doc_store_readers.specs.Pages.{Page}
use Rattle.doc_store_readers.specs.Sites.{View}

-- for each path that links write the rows of the pages that write it
abbrev pub LinkRowMap : Type 0
LinkRowMap = TextMap RowMap

abbrev pub rows_or_none : Option RowMap → RowMap
rows_or_none None = map.empty
rows_or_none (Some rows) = rows

-- the rows of a path
abbrev pub rows_at : LinkRowMap → List ℕ → RowMap
rows_at rows target = rows_or_none (map.get rows target)

-- ---- pages and their links

-- what the links of each page are, by its path and the page
abbrev pub Linking : Type 0
Linking = List ℕ → Page → List LinkKind

-- what stands at a path writes a target
abbrev pub writes_at : Linking → List ℕ → List ℕ → Option Page → Bool
writes_at linking target path None = false
writes_at linking target path (Some page) = list_any (writes target) (linking path page)

-- the pages that write a target
abbrev pub writing : Linking → TextMap Page → List ℕ → TextMap Page
writing linking pages target = map.retain_keys pages (λ path. writes_at linking target path (map.get pages path))

-- the paths of the pages of a view that write a target, in order
abbrev pub paths_writing : Linking → View → List ℕ → List (List ℕ)
paths_writing linking view target =
    mapped (λ page. page.0) (filter (λ page. list_any (writes target) (linking page.0 page.1)) view.pages)

-- the rows of a site's pages by what they write: those of each path are those of the pages that write it
pub record IsLinkRows (linking : Linking) (pages : TextMap Page) (rows : LinkRowMap) : Type 0 where
  pub each : (target : List ℕ) → IsRows (writing linking pages target) (rows_at rows target)

-- ---- edits

-- these are the paths that links write
abbrev pub AreTargets : List LinkKind → TextSet → Type 0
AreTargets links targets = (target : List ℕ) → map.contains_key targets target ≡ list_any (writes target) links

-- these are the paths that the page at a path writes, where one stands there; else none
abbrev pub AreTargetsAt : Linking → TextMap Page → List ℕ → TextSet → Type 0
AreTargetsAt linking pages path targets =
    (target : List ℕ) → map.contains_key targets target ≡ writes_at linking target path (map.get pages path)

-- the groups of a page where it writes a target
abbrev pub groups_if : Bool → Option (List (List ℕ)) → Option (List (List ℕ))
groups_if writes groups = if writes then groups else None

-- The rows while a page with these groups that writes the paths `new` is set at a path, where one with the groups `before` stands that
-- writes the paths `old`, or none: of each path that the new page writes they are wider, and those of the others are as they were.
pub record IsWiderByLinks (linking : Linking) (pages : TextMap Page) (path : List ℕ) (before : Option (List (List ℕ))) (old : TextSet)
    (groups : List (List ℕ)) (new : TextSet) (rows : LinkRowMap) : Type 0 where
  pub stood : groups_at pages path ≡ before
  pub wrote : AreTargetsAt linking pages path old
  pub written : (target : List ℕ) → map.contains_key new target ≡ true
      → IsWider (writing linking pages target) path (groups_if (map.contains_key old target) before) groups (rows_at rows target)
  pub others : (target : List ℕ) → map.contains_key new target ≡ false → IsRows (writing linking pages target) (rows_at rows target)
