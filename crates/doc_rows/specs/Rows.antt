-- Rows: for each of some texts a set of paths, and which rows a site's pages make. All of this is this project's choice.
use Rattle.std.specs.Prelude.{◌≡◌, ℕ, List, [], ◌∷◌, Bool, not, ◌&&◌, ◌||◌, ◌==◌, bytes_eq, codes, filter, Option, Some, None, option_map}
use Rattle.std.specs.Prelude.{if◌then◌else◌, map as mapped}
use Rattle.std.specs.FinMap as map
use Rattle.std.specs.List.{list_any}
use Rattle.doc_store_readers.specs.Maps.{TextMap}
use Rattle.doc_store_readers.specs.Pages.{Page}
use Rattle.doc_store_readers.specs.Sites.{View}
use Rattle.doc_store_readers.specs.declared.reader.Reader.{Reader}

-- a set of texts
abbrev pub TextSet : Type 0
TextSet = TextMap (Unit {0})

-- the sets of all rows
abbrev pub RowMap : Type 0
RowMap = TextMap TextSet

abbrev pub set_or_empty : Option TextSet → TextSet
set_or_empty None = map.empty
set_or_empty (Some set) = set

-- the paths of a row
abbrev pub row_at : RowMap → List ℕ → TextSet
row_at rows row = set_or_empty (map.get rows row)

-- a path stands in a row
abbrev pub stands : RowMap → List ℕ → List ℕ → Bool
stands rows row path = map.contains_key (row_at rows row) path

-- one path more in a row
abbrev pub with_path : RowMap → List ℕ → List ℕ → RowMap
with_path rows row path = map.insert rows row (map.insert (row_at rows row) path tt)

-- what is left of a row without a path
abbrev pub left_in_row : RowMap → List ℕ → List ℕ → TextSet
left_in_row rows row path = map.remove (row_at rows row) path

-- one path less in a row; a row that is empty goes
abbrev pub without_path : RowMap → List ℕ → List ℕ → RowMap
without_path rows row path =
    if map.len (left_in_row rows row path) == 0 then map.remove rows row else map.insert rows row (left_in_row rows row path)

-- ---- the rows of pages

-- the row of all pages, which is no group's name
abbrev pub all_row : List ℕ
all_row = codes "*"

-- a row is one of these
abbrev pub is_among : List ℕ → List (List ℕ) → Bool
is_among row rows = list_any (λ other. bytes_eq other row) rows

-- the rows of a page with these groups: that of all pages, and one for each group
abbrev pub rows_of : List (List ℕ) → List (List ℕ)
rows_of groups = all_row ∷ groups

-- the same where a page need not stand
abbrev pub rows_of_some : Option (List (List ℕ)) → List (List ℕ)
rows_of_some None = []
rows_of_some (Some groups) = rows_of groups

-- the groups of the page at a path, where one stands there
abbrev pub groups_at : TextMap Page → List ℕ → Option (List (List ℕ))
groups_at pages path = option_map (λ page. page.groups) (map.get pages path)

-- the rows of a site's pages: in each row stand the paths of the pages that have it
pub record IsRows (pages : TextMap Page) (rows : RowMap) : Type 0 where
  pub each : (row path : List ℕ) → stands rows row path ≡ is_among row (rows_of_some (groups_at pages path))

-- ---- what a reader sees

-- the rows of what a reader sees
abbrev pub rows_of_reader : Reader → List (List ℕ)
rows_of_reader reader = if reader.owner then all_row ∷ [] else reader.groups

-- a set with all of these texts
abbrev pub with_texts : TextSet → List (List ℕ) → TextSet
with_texts set [] = set
with_texts set (text ∷ texts) = map.insert (with_texts set texts) text tt

-- the paths that stand in some of these rows
abbrev pub paths_among : RowMap → List (List ℕ) → TextSet
paths_among rows [] = map.empty
paths_among rows (row ∷ more) = with_texts (paths_among rows more) (map.keys (row_at rows row))

-- the paths of the pages of a view, in order
abbrev pub paths_in : View → List (List ℕ)
paths_in view = mapped (λ page. page.0) view.pages

-- ---- a path more or less in some rows

-- the path stands in these rows besides
abbrev pub HasMore : RowMap → List ℕ → List (List ℕ) → RowMap → Type 0
HasMore old path names new =
    (row other : List ℕ) → stands new row other ≡ (stands old row other || (bytes_eq other path && is_among row names))

-- the path stands in none of these rows
abbrev pub HasLess : RowMap → List ℕ → List (List ℕ) → RowMap → Type 0
HasLess old path names new =
    (row other : List ℕ) → stands new row other ≡ (stands old row other && not (bytes_eq other path && is_among row names))

-- those of some rows that are none of the others
abbrev pub rows_beside : List (List ℕ) → List (List ℕ) → List (List ℕ)
rows_beside rows others = filter (λ row. not (is_among row others)) rows

-- The rows while a page with these groups is set at a path, where one with the groups `before` stands, or none: those of the pages, and
-- the path stands besides in the rows that the new page has and the old one hasn't.
pub record IsWider (pages : TextMap Page) (path : List ℕ) (before : Option (List (List ℕ))) (groups : List (List ℕ))
    (rows : RowMap) : Type 0 where
  pub old : RowMap
  pub stood : groups_at pages path ≡ before
  pub are : IsRows pages old
  pub more : HasMore old path (rows_beside (rows_of groups) (rows_of_some before)) rows
