-- How a link is shown to a reader. `goals` says which page a path leads to for that reader, and none where they see none there.
use Rattle.std.specs.Prelude.{ℕ, List, [], ◌++◌, codes, Option, Some, None}
use Rattle.doc_page_parts.specs.Escaping.{escaped}
use Rattle.doc_page_parts.specs.declared.linker.Shown.{Shown}
use Rattle.doc_page_parts.specs.declared.linker.Shown.TheVariants.{Href, Missing}
use Rattle.doc_page_encoding.specs.Encoding.{encoded, encoded_path, destination}
use Rattle.doc_resolve.specs.Links.{classify}
use Rattle.doc_resolve.specs.declared.link_kind.LinkKind.{LinkKind}
use Rattle.doc_resolve.specs.declared.link_kind.LinkKind.TheVariants.{External, Page, Nowhere}

-- `#` and the anchor, where there is one (RFC 3986, section 3.5)
abbrev pub fragment_of : Option (List ℕ) → List ℕ
fragment_of None = []
fragment_of (Some anchor) = codes "#" ++ encoded anchor

-- the address of a page, and of a heading in it (this project's choice)
abbrev pub page_href : List ℕ → Option (List ℕ) → List ℕ
page_href path anchor = codes "/page/" ++ encoded_path path ++ fragment_of anchor

-- a link to the page that a path leads to
abbrev pub shown_page : Option (List ℕ) → Option (List ℕ) → Shown
shown_page None anchor = Missing
shown_page (Some goal) anchor = Href (page_href goal anchor)

-- a link by what it leads to: out of the site as its destination stands, in HTML
abbrev pub shown_by : (List ℕ → Option (List ℕ)) → List ℕ → LinkKind → Shown
shown_by goals dest External = Href (escaped (destination dest))
shown_by goals dest (Page path anchor) = shown_page (goals path) anchor
shown_by goals dest Nowhere = Missing

-- the link to a destination in the page at this path
abbrev pub shown : (List ℕ → Option (List ℕ)) → List ℕ → List ℕ → Shown
shown goals page dest = shown_by goals dest (classify page dest)
