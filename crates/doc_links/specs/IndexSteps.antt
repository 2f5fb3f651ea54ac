-- How an index of links holds what it knows, and how its answers are put together.
use Rattle.std.specs.Prelude.{◌≡◌, ◌≢◌, ℕ, ◌+◌, List, [], ◌∷◌, map as mapped, count_by, Bool, false, ◌==◌, Option, Some, None, if◌then◌else◌, option_map, unwrap_or}
use Rattle.std.specs.FinMap as map
use Rattle.std.specs.List.{flat_map}
use Rattle.std.specs.declared.cmp.Ordering.{Ordering}
use Rattle.doc_index.specs.Held.{Known, count_in, held, slot_at}
use Rattle.doc_index_tables.specs.Maps.{PairMap, TextMap}
use Rattle.doc_index.specs.declared.held.Held.{Held}
use Rattle.doc_page_parts.specs.Sights.{leads_to_itself}
use Rattle.doc_resolve.specs.declared.link_kind.LinkKind.{LinkKind}
use Rattle.doc_resolve.specs.declared.link_kind.LinkKind.TheVariants.{External, Page, Nowhere}
use Rattle.doc_links_pages.specs.KnownSteps.{count_at}
use Rattle.doc_links_pages.specs.declared.page_links.PageLinks.{PageLinks}

-- the same keys, with other values
abbrev pub with_values : {K X Y : Type 0} {R : K → K → Ordering} → (X → Y) → map.FinMap R X → map.FinMap R Y
with_values f m = map.from_entries (mapped (λ e. (e.0, f e.1)) (map.entries m))

-- what is held, without the counts of keys
abbrev pub without_counts : List (Option (Held PageLinks)) → PairMap PageLinks
without_counts slots = with_values (λ (page : Known PageLinks). page.value) (held slots)

-- what there is
abbrev pub ones : {X : Type 0} → Option X → List X
ones None = []
ones (Some x) = x ∷ []

-- a path with what is held under it and a stamp, where something is
abbrev pub linked_at : PairMap PageLinks → List ℕ × ℕ → List (List ℕ × PageLinks)
linked_at index place = ones (option_map (λ page. (place.0, page)) (map.get index place))

-- a link leads to a target, whether that is seen or not
abbrev pub goes_to : (List ℕ → Option (List ℕ)) → List ℕ → LinkKind → Bool
goes_to goals target External = false
goes_to goals target (Page path anchor) = leads_to_itself (goals path) target
goes_to goals target Nowhere = false

-- how many links of a page, if there is one, lead to a target
abbrev pub links_to : (List ℕ → Option (List ℕ)) → List ℕ → Option PageLinks → ℕ
links_to goals target None = 0
links_to goals target (Some page) = count_by (goes_to goals target) page.links

-- a page with the number of its links, where it has some
abbrev pub source_of : List ℕ → ℕ → List (List ℕ × ℕ)
source_of path count = if count == 0 then [] else (path, count) ∷ []

-- the pages that have links to a target
abbrev pub sources_of : (List ℕ → Option (List ℕ)) → List ℕ → List (List ℕ × PageLinks) → List (List ℕ × ℕ)
sources_of goals target pages = flat_map (λ page. source_of page.0 (count_by (goes_to goals target) page.1.links)) pages

-- no two slots have pages with the same path
abbrev pub AreSingle : List (Option (Held PageLinks)) → Type 0
AreSingle slots =
    (i j : ℕ) (page other : Held PageLinks) → slot_at slots i ≡ Some page → slot_at slots j ≡ Some other → page.path ≡ other.path → i ≡ j

-- so many more links of a page
abbrev pub with_count : TextMap ℕ → List ℕ → ℕ → TextMap ℕ
with_count counts path n = if n == 0 then counts else map.insert counts path (count_at counts path + n)

-- so many more of the page of a slot, where there is one that is seen
abbrev pub with_page : (List ℕ → Option (List ℕ)) → TextMap ℕ → Option (Held PageLinks) → ℕ → TextMap ℕ
with_page goals counts None n = counts
with_page goals counts (Some page) n =
    if leads_to_itself (goals page.path) page.path then with_count counts page.path n else counts

-- the counts of a row more
abbrev pub with_row : List (Option (Held PageLinks)) → (List ℕ → Option (List ℕ)) → TextMap ℕ → List (ℕ × ℕ) → TextMap ℕ
with_row slots goals counts [] = counts
with_row slots goals counts (entry ∷ entries) = with_row slots goals (with_page goals counts (slot_at slots entry.0) entry.1) entries

-- a number of what is seen
abbrev pub if_seen : (List ℕ → Option (List ℕ)) → List ℕ → ℕ → ℕ
if_seen goals path n = if leads_to_itself (goals path) path then n else 0

-- the paths of pages that are seen, each with the number of its slot where that isn't 0
pub record IsTally (slots : List (Option (Held PageLinks))) (goals : List ℕ → Option (List ℕ)) (number : ℕ → ℕ) (tally : TextMap ℕ)
    : Type 0 where
  pub counts : (i : ℕ) (page : Held PageLinks) → slot_at slots i ≡ Some page → count_at tally page.path ≡ if_seen goals page.path (number i)
  pub known : (path : List ℕ) → ((i : ℕ) (page : Held PageLinks) → slot_at slots i ≡ Some page → page.path ≢ path)
      → map.get tally path ≡ None
  pub some : (path : List ℕ) → map.get tally path ≢ Some 0

-- how often the page of a slot writes a path
abbrev pub written_at : List (Option (Held PageLinks)) → List ℕ → ℕ → ℕ
written_at slots path i = unwrap_or (count_in (slot_at slots i) path) 0
