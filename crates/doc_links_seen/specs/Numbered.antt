-- The numbers of the pages that slots hold, and the links that are whole by them.
use Rattle.std.specs.Prelude.{◌≡◌, ℕ, zero, suc, List, ◌++◌, Bool, false, true, Option, Some, None, slice_get, slice_index_or}
use Rattle.std.specs.FinMap as map
use Rattle.std.specs.List.{Contains, flat_map}
use Rattle.doc_index.specs.Held.{slot_at}
use Rattle.doc_index.specs.declared.held.Held.{Held}
use Rattle.doc_links_names.specs.Names.{NameTable}
use Rattle.doc_links_names.specs.PageNumbers.{IsNumbered}
use Rattle.doc_links_names.specs.declared.page_numbers.PageNumbers.{PageNumbers}
use Rattle.doc_links_pages.specs.Links.{broken_from, fault_of, page_at}
use Rattle.doc_links_pages.specs.declared.answers.Broken.{Broken}
use Rattle.doc_links_pages.specs.declared.page_links.PageLinks.{PageLinks}
use Rattle.doc_page_parts.specs.Sights.{leads_to_itself}
use Rattle.doc_resolve.specs.declared.link_kind.LinkKind.{LinkKind}

-- the numbers of a slot, where it has some
abbrev pub numbers_at : List (Option PageNumbers) → ℕ → Option PageNumbers
numbers_at numbers slot = slice_index_or numbers slot None

-- a slot that has numbers has a page, and they are this page's
abbrev pub AreNumbered : List (Option (Held PageLinks)) → NameTable → List (Option PageNumbers) → Type 0
AreNumbered slots names numbers =
    (slot : ℕ) (own : PageNumbers) → numbers_at numbers slot ≡ Some own
    → (page : Held PageLinks) × (slot_at slots slot ≡ Some page) × IsNumbered names slot page.path page.value own

-- what stands for a number: 0, or one of these slots and 1, where that is the number of the path of the slot's page
abbrev pub IsStand : List ℕ → List (Option PageNumbers) → ℕ → ℕ → Type 0
IsStand some numbers n stand =
    (slot : ℕ) → stand ≡ suc slot → Contains some slot × (own : PageNumbers) × (numbers_at numbers slot ≡ Some own) × (own.own ≡ n)

abbrev pub AreStands : List ℕ → List (Option PageNumbers) → List ℕ → Type 0
AreStands some numbers stands = (n : ℕ) → IsStand some numbers n (slice_index_or stands n 0)

-- what stands for the number of an anchor: 0, or a slot and 1 whose page has an anchor of this number
abbrev pub IsNamed : List (Option PageNumbers) → ℕ → ℕ → Type 0
IsNamed numbers n stand =
    (slot : ℕ) → stand ≡ suc slot
    → (own : PageNumbers) × (numbers_at numbers slot ≡ Some own) × (map.contains_key own.anchors n ≡ true)

abbrev pub AreNamed : List (Option PageNumbers) → List ℕ → Type 0
AreNamed numbers named = (n : ℕ) → IsNamed numbers n (slice_index_or named n 0)

-- a page has the anchor of this number and 1, or none is asked for
abbrev pub has_anchor_part : Option PageNumbers → ℕ → Bool
has_anchor_part None part = false
has_anchor_part (Some own) zero = true
has_anchor_part (Some own) (suc n) = map.contains_key own.anchors n

abbrev pub is_whole_at : List (Option PageNumbers) → ℕ → ℕ → Bool
is_whole_at numbers zero anchor = false
is_whole_at numbers (suc slot) zero = true
is_whole_at numbers (suc slot) (suc n) = has_anchor_part (numbers_at numbers slot) (suc n)

-- a link of this pair is whole by its numbers: they lead to one of the pages that stand, and to one of its anchors
abbrev pub is_whole : List ℕ → List (Option PageNumbers) → ℕ → ℕ → Bool
is_whole stands numbers zero anchor = false
is_whole stands numbers (suc n) anchor = is_whole_at numbers (slice_index_or stands n 0) anchor

-- the pair of the link at a place, where it has one
abbrev pub pair_at : Option PageNumbers → ℕ → ℕ × ℕ
pair_at None i = (0, 0)
pair_at (Some own) i = slice_index_or own.links i (0, 0)

-- the links of a page that are whole by their numbers are so
abbrev pub AreWhole : (List ℕ → Option (List ℕ)) → List (List ℕ × PageLinks) → List LinkKind → (ℕ → Bool) → Type 0
AreWhole goals pages links whole =
    (i : ℕ) (link : LinkKind) → slice_get links i ≡ Some link → whole i ≡ true → fault_of goals pages link ≡ None

-- the links at these places are whole by their numbers
abbrev pub whole_of : List ℕ → List (Option PageNumbers) → Option PageNumbers → ℕ → Bool
whole_of stands numbers own i = is_whole stands numbers (pair_at own i).0 (pair_at own i).1

-- the links of all pages that are whole by their numbers are so
abbrev pub AreAllWhole : (List ℕ → Option (List ℕ)) → List (List ℕ × PageLinks) → List (Option (Held PageLinks))
    → List ℕ → List (Option PageNumbers) → Type 0
AreAllWhole goals pages slots stands numbers =
    (slot : ℕ) (page : Held PageLinks) → slot_at slots slot ≡ Some page
    → AreWhole goals pages page.value.links (whole_of stands numbers (numbers_at numbers slot))

-- each of these pages is seen
abbrev pub AreSeen : (List ℕ → Option (List ℕ)) → List (List ℕ × PageLinks) → Type 0
AreSeen goals pages =
    (path : List ℕ) (page : List ℕ × PageLinks) → page_at pages path ≡ Some page → leads_to_itself (goals path) path ≡ true

-- the broken links of pages among others, and behind those of each page what else is told of it
abbrev pub broken_of : (List ℕ → List Broken) → (List ℕ → Option (List ℕ)) → List (List ℕ × PageLinks) → List (List ℕ × PageLinks)
    → List Broken
broken_of behind goals pages some = flat_map (λ page. broken_from goals pages page.0 1 page.1.links ++ behind page.0) some
