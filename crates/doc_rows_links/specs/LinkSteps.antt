-- A path more or less in the rows of each target, while a page is set or taken out. All of this is this project's choice.
use Rattle.std.specs.Prelude.{◌≡◌, ℕ, List, [], ◌||◌, Bool, Option, Some, bytes_eq, if◌then◌else◌}
use Rattle.std.specs.FinMap as map
use Rattle.std.specs.List.{list_any}
use Rattle.doc_links_pages.specs.Names.{writes}
use Rattle.doc_resolve.specs.declared.link_kind.LinkKind.{LinkKind}
use Rattle.doc_rows.specs.Rows.{HasLess, HasMore, TextSet, rows_beside, rows_of, rows_of_some}
use Rattle.doc_rows_links.specs.LinkRows.{LinkRowMap, groups_if, rows_at}

-- the names of rows, for each target
abbrev pub Named : Type 0
Named = List ℕ → List (List ℕ)

-- of a target the path stands besides in the rows that are named for it
abbrev pub AllHaveMore : LinkRowMap → List ℕ → Named → LinkRowMap → Type 0
AllHaveMore old path names new = (target : List ℕ) → HasMore (rows_at old target) path (names target) (rows_at new target)

-- of a target the path stands in none of the rows that are named for it
abbrev pub AllHaveLess : LinkRowMap → List ℕ → Named → LinkRowMap → Type 0
AllHaveLess old path names new = (target : List ℕ) → HasLess (rows_at old target) path (names target) (rows_at new target)

abbrev pub names_if : Bool → List (List ℕ) → List (List ℕ)
names_if some names = if some then names else []

-- these for one target, and none for the others
abbrev pub only_at : List ℕ → List (List ℕ) → Named
only_at target names other = names_if (bytes_eq other target) names

-- the rows that the new page has and the old one hasn't, by what the old one writes
abbrev pub added_at : Option (List (List ℕ)) → TextSet → List (List ℕ) → Named
added_at before old groups target = rows_beside (rows_of groups) (rows_of_some (groups_if (map.contains_key old target) before))

-- the same by what each writes
abbrev pub added : Option (List (List ℕ)) → TextSet → List (List ℕ) → TextSet → Named
added before old groups new target = names_if (map.contains_key new target) (added_at before old groups target)

-- the rows that the old page has and the new one hasn't, by what the new one writes
abbrev pub dropped_at : Option (List (List ℕ)) → List (List ℕ) → TextSet → Named
dropped_at before groups new target =
    rows_beside (rows_of_some before) (rows_of_some (groups_if (map.contains_key new target) (Some groups)))

abbrev pub dropped : Option (List (List ℕ)) → TextSet → List (List ℕ) → TextSet → Named
dropped before old groups new target = names_if (map.contains_key old target) (dropped_at before groups new target)

-- the rows of a page with these groups, for what its links write
abbrev pub lifted : List (List ℕ) → List LinkKind → Named
lifted groups links target = names_if (list_any (writes target) links) (rows_beside (rows_of groups) [])

-- one link more
abbrev pub HasTarget : TextSet → LinkKind → TextSet → Type 0
HasTarget old link new = (target : List ℕ) → map.contains_key new target ≡ (map.contains_key old target || writes target link)
