-- Links to media. `goals` says which page a path leads to for a reader, and none where they see none there; `media` are those that the
-- reader sees, and none at all where there are none for anybody. All of this is this project's choice.
use Rattle.std.specs.Prelude.{ℕ, List, [], ◌∷◌, ◌++◌, Bool, true, false, not, ◌&&◌, codes, is_some, Option, Some, None}
use Rattle.std.specs.List.{filter, list_any}
use Rattle.doc_links_pages.specs.declared.answers.Broken.{Broken}
use Rattle.doc_links_pages.specs.declared.answers.Reason.{Reason}
use Rattle.doc_links_pages.specs.declared.answers.Reason.TheVariants as reasons
use Rattle.doc_media.specs.Media.{Beside, medium_in}
use Rattle.doc_page_encoding.specs.Encoding.{destination, encoded_path}
use Rattle.doc_page_parts.specs.Escaping.{escaped}
use Rattle.doc_page_parts.specs.Paths.{is_path}
use Rattle.doc_page_parts.specs.declared.linker.Shown.{Shown}
use Rattle.doc_page_parts.specs.declared.linker.Shown.TheVariants.{Href, Missing}
use Rattle.doc_resolve.specs.Hrefs.{shown}
use Rattle.doc_resolve.specs.Links.{classify}
use Rattle.doc_resolve.specs.References.{reference}
use Rattle.doc_resolve.specs.declared.link_kind.LinkKind.{LinkKind}
use Rattle.doc_resolve.specs.declared.link_kind.LinkKind.TheVariants.{External, Page, Nowhere}

-- a medium that is seen stands under a path
abbrev pub sees_medium : Beside → List ℕ → Bool
sees_medium media path = is_some (medium_in media path)

-- ---- how a link is shown

-- `#` and a fragment as its destination writes it, where there is one that isn't empty: viewers of media read it, as `#page=2` (RFC 8118,
-- section 3). What it stands for is asked of no heading, so it isn't decoded
abbrev pub fragment_of : Option (List ℕ) → List ℕ
fragment_of None = []
fragment_of (Some []) = []
fragment_of (Some (b ∷ text)) = codes "#" ++ escaped (destination (b ∷ text))

-- the address of a medium
abbrev pub medium_href : List ℕ → Option (List ℕ) → List ℕ
medium_href path fragment = codes "/page/" ++ encoded_path path ++ fragment_of fragment

-- a link to the medium at a path, where one is seen there
abbrev pub shown_medium : Bool → List ℕ → List ℕ → Shown
shown_medium false path dest = Missing
shown_medium true path dest = Href (medium_href path (reference dest).fragment)

-- a link that leads to no page, by what it leads to
abbrev pub shown_as_medium : Beside → List ℕ → LinkKind → Shown
shown_as_medium media dest External = Missing
shown_as_medium media dest (Page path anchor) = shown_medium (sees_medium media path) path dest
shown_as_medium media dest Nowhere = Missing

-- a link as it is shown among pages, or else as one to a medium
abbrev pub shown_or_medium : Beside → List ℕ → List ℕ → Shown → Shown
shown_or_medium media page dest (Href address) = Href address
shown_or_medium media page dest Missing = shown_as_medium media dest (classify page dest)

-- the link to a destination in the page at this path: where there are no media, as among pages
abbrev pub shown_beside : (List ℕ → Option (List ℕ)) → Beside → List ℕ → List ℕ → Shown
shown_beside goals None page dest = shown goals page dest
shown_beside goals (Some held) page dest = shown_or_medium (Some held) page dest (shown goals page dest)

-- ---- whether links lead to media

abbrev pub leads_to_medium : Beside → LinkKind → Bool
leads_to_medium media External = false
leads_to_medium media (Page path anchor) = sees_medium media path
leads_to_medium media Nowhere = false

abbrev pub any_leads : Beside → List LinkKind → Bool
any_leads media links = list_any (leads_to_medium media) links

-- one of the links leads to a medium that is seen
abbrev pub lead_to_media : Beside → List LinkKind → Bool
lead_to_media None links = false
lead_to_media (Some held) links = any_leads (Some held) links

-- a link leads to a medium that is seen, and names a place in it
abbrev pub names_place : Beside → LinkKind → Bool
names_place media External = false
names_place media (Page path None) = false
names_place media (Page path (Some anchor)) = sees_medium media path
names_place media Nowhere = false

abbrev pub any_names : Beside → List LinkKind → Bool
any_names media links = list_any (names_place media) links

-- one of the links does
abbrev pub name_places : Beside → List LinkKind → Bool
name_places None links = false
name_places (Some held) links = any_names (Some held) links

-- ---- which links are broken

-- a medium that is seen stands where a text leads, which may be no path
abbrev pub is_medium_at : Beside → List ℕ → Bool
is_medium_at media text = is_path text && sees_medium media text

-- a link that is broken among pages leads to a medium that is seen, whatever its anchor
abbrev pub names_medium : Beside → Reason → List ℕ → Bool
names_medium media reasons.Page target = is_medium_at media target
names_medium media reasons.Anchor target = false
names_medium media reasons.Path target = false
names_medium media reasons.Image target = false

-- a link that is broken among pages is broken
abbrev pub is_broken : Beside → Broken → Bool
is_broken media link = not (names_medium media link.reason link.target)

-- of the links that are broken among pages those that are
abbrev pub broken_beside : Beside → List Broken → List Broken
broken_beside None links = links
broken_beside (Some held) links = filter (is_broken (Some held)) links
