-- How often the page of each slot writes some paths, slot by slot.
use Rattle.std.specs.Prelude.{◌≡◌, ◌<◌, ℕ, ◌+◌, List, [], Option, Some, None, length, slice_index_or}
use Rattle.std.specs.List.{flat_map}
use Rattle.doc_index.specs.Held.{slot_at}
use Rattle.doc_index.specs.declared.held.Held.{Held}
use Rattle.doc_links.specs.IndexSteps.{source_of}
use Rattle.doc_links_pages.specs.declared.page_links.PageLinks.{PageLinks}

-- the number of a slot
abbrev pub count_of : List ℕ → ℕ → ℕ
count_of counts slot = slice_index_or counts slot 0

-- each slot has so many more
abbrev pub HasMore : (ℕ → ℕ) → List ℕ → List ℕ → Type 0
HasMore more old new = (length new ≡ length old) × ((slot : ℕ) → slot < length old → count_of new slot ≡ count_of old slot + more slot)

-- the page of a slot, where there is one, with a number that isn't 0
abbrev pub source_in : Option (Held PageLinks) → ℕ → List (List ℕ × ℕ)
source_in None count = []
source_in (Some page) count = source_of page.path count

-- the pages of these slots with their numbers, one slot after another
abbrev pub sources_at : List (Option (Held PageLinks)) → List ℕ → List ℕ → List (List ℕ × ℕ)
sources_at slots counts numbers = flat_map (λ slot. source_in (slot_at slots slot) (count_of counts slot)) numbers
