-- The numbers of a page.
use Rattle.std.specs.Prelude.{◌≡◌, ◌⊎◌, ◌||◌, ℕ, suc, List, Option, Some, None, Bool, true, false, bytes_eq}
use Rattle.std.specs.FinMap as map
use Rattle.std.specs.List.{AllZip, list_any}
use Rattle.doc_page_parts.specs.declared.rendered.Heading.{Heading}
use Rattle.doc_resolve.specs.declared.link_kind.LinkKind.{LinkKind}
use Rattle.doc_resolve.specs.declared.link_kind.LinkKind.TheVariants.{External, Page, Nowhere}
use Rattle.doc_links_pages.specs.Links.{has_anchor}
use Rattle.doc_links_pages.specs.declared.page_links.PageLinks.{PageLinks}
use Rattle.doc_links_names.specs.Names.{NameTable, number_of, uses}
use Rattle.doc_links_names.specs.declared.page_numbers.PageNumbers.{PageNumbers}

-- a slot uses a text, which has this number
abbrev pub IsNumberOf : NameTable → ℕ → List ℕ → ℕ → Type 0
IsNumberOf names slot text n = (uses names text slot ≡ true) × (number_of names text ≡ Some n)

-- the number of the anchor of a link and 1, or 0 of no anchor
abbrev pub IsAnchorPart : NameTable → ℕ → Option (List ℕ) → ℕ → Type 0
IsAnchorPart names slot None part = part ≡ 0
IsAnchorPart names slot (Some anchor) part = (n : ℕ) × (part ≡ suc n) × IsNumberOf names slot anchor n

-- the pair of a link: the number of the path that it writes and 1, and its anchor's; or 0 and anything, which tells nothing
abbrev pub IsLinkNumber : NameTable → ℕ → LinkKind → ℕ × ℕ → Type 0
IsLinkNumber names slot External pair = pair.0 ≡ 0
IsLinkNumber names slot (Page path anchor) pair =
    (pair.0 ≡ 0)
    ⊎ ((n : ℕ) × (pair.0 ≡ suc n) × IsNumberOf names slot path n × IsAnchorPart names slot anchor pair.1)
IsLinkNumber names slot Nowhere pair = pair.0 ≡ 0

-- the pairs of links, one for each
abbrev pub AreLinkNumbers : NameTable → ℕ → List LinkKind → List (ℕ × ℕ) → Type 0
AreLinkNumbers names slot links pairs = AllZip (IsLinkNumber names slot) links pairs

-- a heading has an anchor with this number, which a slot uses
abbrev pub IsAnchorNumber : NameTable → ℕ → List Heading → ℕ → Type 0
IsAnchorNumber names slot headings n =
    (anchor : List ℕ) × (has_anchor headings anchor ≡ true) × (uses names anchor slot ≡ true) × (number_of names anchor ≡ Some n)

abbrev pub is_anchor : List ℕ → Option (List ℕ) → Bool
is_anchor text None = false
is_anchor text (Some anchor) = bytes_eq anchor text

-- a link writes this text, as its path or as its anchor
abbrev pub writes_text : List ℕ → LinkKind → Bool
writes_text text External = false
writes_text text (Page path anchor) = bytes_eq path text || is_anchor text anchor
writes_text text Nowhere = false

abbrev pub is_written : List LinkKind → List ℕ → Bool
is_written links text = list_any (writes_text text) links

-- a text of the page at a path: the path, what a link writes, or the anchor of a heading
abbrev pub is_text_of : List ℕ → PageLinks → List ℕ → Bool
is_text_of path page text = bytes_eq path text || (is_written page.links text || has_anchor page.headings text)

-- the numbers of the page at a path that a slot holds, as these names have them. What is told is true; that all is told isn't said
pub record IsNumbered (names : NameTable) (slot : ℕ) (path : List ℕ) (page : PageLinks) (numbers : PageNumbers) : Type 0 where
  pub own : (uses names path slot ≡ true) × (number_of names path ≡ Some numbers.own)
  pub links : AreLinkNumbers names slot page.links numbers.links
  pub anchors : (n : ℕ) → map.contains_key numbers.anchors n ≡ true → IsAnchorNumber names slot page.headings n
