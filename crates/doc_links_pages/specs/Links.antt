-- Broken links, backlinks and contents of pages that are seen: of each its path and what is known of it, in the order of the paths.
-- `goals` says which page a path leads to, by itself or as an alias. All of this is this project's choice.
use Rattle.std.specs.Prelude.{ℕ, suc, List, [], ◌∷◌, ◌++◌, map, count_by, Bool, false, not, ◌==◌, bytes_eq, codes, Option, Some, None}
use Rattle.std.specs.Prelude.{option_and_then, if◌then◌else◌}
use Rattle.std.specs.List.{filter, flat_map, list_any}
use Rattle.doc_page_parts.specs.declared.rendered.Heading.{Heading}
use Rattle.doc_page_encoding.specs.Encoding.{encoded}
use Rattle.doc_resolve.specs.declared.link_kind.LinkKind.{LinkKind}
use Rattle.doc_resolve.specs.declared.link_kind.LinkKind.TheVariants.{External, Page, Nowhere}
use Rattle.doc_links_pages.specs.declared.answers.Broken.{Broken}
use Rattle.doc_links_pages.specs.declared.answers.Entry.{Entry}
use Rattle.doc_links_pages.specs.declared.answers.Reason.{Reason}
use Rattle.doc_links_pages.specs.declared.answers.Reason.TheVariants as reasons
use Rattle.doc_links_pages.specs.declared.page_links.PageLinks.{PageLinks}

-- the page at this path, where it is one of these
abbrev pub page_at : List (List ℕ × PageLinks) → List ℕ → Option (List ℕ × PageLinks)
page_at [] path = None
page_at (page ∷ pages) path = if bytes_eq page.0 path then Some page else page_at pages path

-- the page that a path leads to, where it is one of these
abbrev pub page_among : (List ℕ → Option (List ℕ)) → List (List ℕ × PageLinks) → List ℕ → Option (List ℕ × PageLinks)
page_among goals pages path = option_and_then (page_at pages) (goals path)

-- a heading has this anchor
abbrev pub has_anchor : List Heading → List ℕ → Bool
has_anchor headings anchor = list_any (λ heading. bytes_eq heading.anchor anchor) headings

-- why a link to a path and an anchor is broken, and what is told of it, by the page that the path leads to
abbrev pub fault_in : List ℕ → Option (List ℕ) → Option (List ℕ × PageLinks) → Option (Reason × List ℕ)
fault_in path anchor None = Some (reasons.Page, path)
fault_in path None (Some page) = None
fault_in path (Some anchor) (Some page) =
    if has_anchor page.1.headings anchor then None else Some (reasons.Anchor, path ++ codes "#" ++ encoded anchor)

-- why a link is broken, if it is. One out of the site never is
abbrev pub fault_of : (List ℕ → Option (List ℕ)) → List (List ℕ × PageLinks) → LinkKind → Option (Reason × List ℕ)
fault_of goals pages External = None
fault_of goals pages (Page path anchor) = fault_in path anchor (page_among goals pages path)
fault_of goals pages Nowhere = Some (reasons.Path, codes "-")

abbrev pub broken_by : List ℕ → ℕ → Option (Reason × List ℕ) → List Broken
broken_by source place None = []
broken_by source place (Some fault) = record { source = source; place = place; reason = fault.0; target = fault.1 } ∷ []

-- the broken ones of the links of a page from a place on
abbrev pub broken_from : (List ℕ → Option (List ℕ)) → List (List ℕ × PageLinks) → List ℕ → ℕ → List LinkKind → List Broken
broken_from goals pages source place [] = []
broken_from goals pages source place (link ∷ links) =
    broken_by source place (fault_of goals pages link) ++ broken_from goals pages source (suc place) links

-- the broken links of these pages. Places count from 1
unfoldable pub broken : (List ℕ → Option (List ℕ)) → List (List ℕ × PageLinks) → List Broken
broken goals pages = flat_map (λ page. broken_from goals pages page.0 1 page.1.links) pages

-- the same, and behind the links of each page what else is told of it
unfoldable pub broken_with : (List ℕ → List Broken) → (List ℕ → Option (List ℕ)) → List (List ℕ × PageLinks) → List Broken
broken_with behind goals pages = flat_map (λ page. broken_from goals pages page.0 1 page.1.links ++ behind page.0) pages

abbrev pub is_target : List ℕ → Option (List ℕ × PageLinks) → Bool
is_target target None = false
is_target target (Some page) = bytes_eq page.0 target

-- a link leads to the page at this path, by that path or by an alias
abbrev pub leads_to : (List ℕ → Option (List ℕ)) → List (List ℕ × PageLinks) → List ℕ → LinkKind → Bool
leads_to goals pages target External = false
leads_to goals pages target (Page path anchor) = is_target target (page_among goals pages path)
leads_to goals pages target Nowhere = false

-- each page that has links to a target, and how many
unfoldable pub backlinks : (List ℕ → Option (List ℕ)) → List (List ℕ × PageLinks) → List ℕ → List (List ℕ × ℕ)
backlinks goals pages target =
    filter (λ source. not (source.1 == 0)) (map (λ page. (page.0, count_by (leads_to goals pages target) page.1.links)) pages)

abbrev pub entry_of : List ℕ × PageLinks → Entry
entry_of page = record { path = page.0; headings = page.1.headings }

-- the pages with their headings
unfoldable pub contents : List (List ℕ × PageLinks) → List Entry
contents pages = map entry_of pages
