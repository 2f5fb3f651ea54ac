-- How renderings are held, with the lines that contents have of their pages.
use Rattle.std.specs.Prelude.{◌≡◌, ℕ, List, [], ◌∷◌, Bool, false, Option, Some, None, if◌then◌else◌, map as mapped}
use Rattle.std.specs.Borrow.{Bor}
use Rattle.std.specs.FinMap as map
use Rattle.doc_index.specs.Held.{Known, held}
use Rattle.doc_index_tables.specs.Maps.{PairMap}
use Rattle.doc_index.specs.declared.held.Held.{Held}
use Rattle.doc_listings.specs.Listings.{entry_lines}
use Rattle.doc_page_parts.specs.declared.rendered.Heading.{Heading}
use Rattle.doc_page_parts.specs.declared.rendered.Rendered.{Rendered}
use Rattle.doc_links.specs.IndexSteps.{with_values}
use Rattle.doc_shelf_pages.specs.declared.lined.Lined.{Lined}

-- the bytes of borrowed texts
abbrev pub texts_of : List (Bor (List ℕ)) → List (List ℕ)
texts_of texts = mapped (λ text. text.now) texts

-- the lines that contents have of the page at a path, by its headings
abbrev pub lines_of : List ℕ → List Heading → List ℕ
lines_of path headings = entry_lines (record { path = path; headings = headings })

-- the lines of a page with its path
abbrev pub lines_at : List ℕ × Rendered → List ℕ
lines_at page = lines_of page.0 page.1.headings

-- a rendering with the lines of its page at a path
abbrev pub lined : List ℕ → Rendered → Lined
lined path page = record { page = page; lines = lines_of path page.headings }

-- what is held, without the counts of keys and without lines
abbrev pub renderings_in : List (Option (Held Lined)) → PairMap Rendered
renderings_in slots = with_values (λ (page : Known Lined). page.value.page) (held slots)

-- each rendering is held with the lines of its page at the path under which it is held
abbrev pub AreLined : List (Option (Held Lined)) → Type 0
AreLined slots =
    (k : List ℕ × ℕ) (page : Known Lined) → map.get (held slots) k ≡ Some page → page.value ≡ lined k.0 page.value.page

-- no rendering has images
abbrev pub HasNoImages : PairMap Rendered → Type 0
HasNoImages pages = (k : List ℕ × ℕ) (page : Rendered) → map.get pages k ≡ Some page → page.images ≡ []

-- where none with images was held ever, none has images
abbrev pub AreImaged : Bool → List (Option (Held Lined)) → Type 0
AreImaged imaged slots = imaged ≡ false → HasNoImages (renderings_in slots)

-- renderings with a copy of one, if it is there, under a path and a stamp
abbrev pub with_copy : PairMap Rendered → Option Rendered → List ℕ → ℕ → PairMap Rendered
with_copy held None path stamp = held
with_copy held (Some page) path stamp = map.insert held (path, stamp) page

-- of these, each with a flag, those whose flag is set
abbrev pub flagged : {X : Type 0} → List Bool → List X → List X
flagged [] xs = []
flagged (flag ∷ flags) [] = []
flagged (flag ∷ flags) (x ∷ xs) = if flag then x ∷ flagged flags xs else flagged flags xs

-- the lines of those of these pages whose flags are set
abbrev pub flagged_lines : List Bool → List ((List ℕ × ℕ) × Known Lined) → List (List ℕ)
flagged_lines flags pages = mapped (λ page. page.1.value.lines) (flagged flags pages)
