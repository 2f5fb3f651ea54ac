-- What numbers a page that goes leaves.
use Rattle.std.specs.Prelude.{◌≡◌, ℕ, List, Option, Some, None}
use Rattle.doc_index.specs.Held.{slot_at}
use Rattle.doc_index.specs.declared.held.Held.{Held}
use Rattle.doc_links.specs.declared.numbering.Numbering.{Numbering}
use Rattle.doc_links_pages.specs.declared.page_links.PageLinks.{PageLinks}
use Rattle.doc_links_seen.specs.Numbered.{AreNamed, AreNumbered, numbers_at}

-- these are the numbers of the pages in slots
abbrev pub HasNumbers : List (Option (Held PageLinks)) → Numbering → Type 0
HasNumbers slots numbering = AreNumbered slots numbering.names numbering.numbers.items

-- an anchor leads to a slot whose page has it
abbrev pub HasNamed : Numbering → Type 0
HasNamed numbering = AreNamed numbering.numbers.items numbering.named.slots.items

-- a slot whose page has this path and stamp has no numbers
abbrev pub IsGone : List (Option (Held PageLinks)) → Numbering → List ℕ → ℕ → Type 0
IsGone slots numbering path stamp =
    (i : ℕ) (page : Held PageLinks) → slot_at slots i ≡ Some page → page.path ≡ path → page.stamp ≡ stamp
    → numbers_at numbering.numbers.items i ≡ None
