-- The pages of slots, and the order in which those that are seen stand.
use Rattle.std.specs.Prelude.{◌≡◌, ℕ, List, [], ◌∷◌, Option, Some, None}
use Rattle.std.specs.Cmp.Lexicographic.{slice_cmp}
use Rattle.std.specs.FinMap as map
use Rattle.std.specs.List.{flat_map}
use Rattle.std.specs.List.Sorted.{IsStrictlySortedBy}
use Rattle.std.specs.Map.{keys_of}
use Rattle.std.specs.Ordering.{nat_cmp}
use Rattle.doc_index.specs.Held.{Known, held, slot_at}
use Rattle.doc_index.specs.declared.held.Held.{Held}
use Rattle.doc_links_pages.specs.KnownSteps.{HasKeys}
use Rattle.doc_links_pages.specs.declared.page_links.PageLinks.{PageLinks}

-- the page of a slot, where it has one
abbrev pub page_in : Option (Held PageLinks) → List (List ℕ × PageLinks)
page_in None = []
page_in (Some page) = (page.path, page.value) ∷ []

-- no two pages have the same path, and they stand in the order of their paths
abbrev pub IsInOrder : List (List ℕ × PageLinks) → Type 0
IsInOrder pages = IsStrictlySortedBy (slice_cmp nat_cmp) (keys_of pages)

-- the pages of these slots, one slot after another
abbrev pub pages_at : List (Option (Held PageLinks)) → List ℕ → List (List ℕ × PageLinks)
pages_at slots numbers = flat_map (λ slot. page_in (slot_at slots slot)) numbers

-- each page is held with the counts of the paths that its links write
abbrev pub AreKeyed : List (Option (Held PageLinks)) → Type 0
AreKeyed slots =
    (k : List ℕ × ℕ) (page : Known PageLinks) → map.get (held slots) k ≡ Some page → HasKeys page.value.links page.counts
