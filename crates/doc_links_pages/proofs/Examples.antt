-- Worked examples of broken links, backlinks and contents, computed from the definitions alone.
use Rattle.std.proofs.Common.{◌≡◌, false, codes, is_some, refl, ap, sym, ◌∙◌, List, ℕ, [], ◌∷◌}
use Rattle.std.proofs.Math.Utf8.{encode}
use Rattle.std.specs.Prelude.{Option, Some, None, bytes_eq, if◌then◌else◌}
use Rattle.std.specs.FinMap as map
use Rattle.std.specs.Str.{chars, is_utf8}
use Rattle.std.proofs.lemmas.Bool.{both_ways}
use Rattle.percent_encoding.specs.Percent.{percent_decode, percent_encode_byte}
use Rattle.doc_page_parts.specs.Paths.{is_path}
use Rattle.doc_page_parts.specs.Sights.{seen}
use Rattle.doc_page_parts.specs.declared.rendered.Heading.{Heading}
use Rattle.doc_page_parts.specs.declared.rendered.Piece.{Piece}
use Rattle.doc_page_parts.specs.declared.rendered.Piece.TheVariants.{Html, Link}
use Rattle.doc_page_encoding.specs.Encoding.{encoded, encoded_path}
use Rattle.doc_resolve.specs.DotSegments.{put_all, without_dots}
use Rattle.doc_resolve.specs.Links.{kind_on, kinds}
use Rattle.doc_resolve.specs.References.{reference}
use Rattle.doc_resolve.specs.Resolution.{resolve}
use Rattle.doc_resolve.specs.WrittenPaths.{path_written}
use Rattle.doc_resolve.specs.declared.link_kind.LinkKind.{LinkKind}
use Rattle.doc_resolve.specs.declared.link_kind.LinkKind.TheVariants.{External, Page, Nowhere}
use Rattle.doc_links_pages.specs.Links.{backlinks, broken, contents}
use Rattle.doc_index_tables.specs.Maps.{pair_cmp}
use Rattle.doc_links_pages.specs.PageLinks.{IsOnce, page_links}
use Rattle.doc_links_pages.specs.declared.answers.Broken.{Broken}
use Rattle.doc_links_pages.specs.declared.answers.Entry.{Entry}
use Rattle.doc_links_pages.specs.declared.answers.Reason.{Reason}
use Rattle.doc_links_pages.specs.declared.answers.Reason.TheVariants as reasons
use Rattle.doc_links_pages.specs.declared.page_links.PageLinks.{PageLinks}

abbrev to : List ℕ → Piece
to dest = Link (record { dest = dest; title = None })

abbrev heading : List ℕ → Heading
heading anchor = record { level = 1; anchor = anchor; text = codes "Heading" }

-- a page with links of all kinds
abbrev all_kinds : PageLinks
all_kinds = page_links (codes "a.md")
    (Html (codes "<p>") ∷ to (codes "b.md") ∷ to (codes "https://h/x") ∷ to (codes "hidden.md") ∷ to (codes "old.md#top")
    ∷ to (codes "a%2Fb.md") ∷ to (codes "b.md#top") ∷ to (codes "b.md#low%2F") ∷ to (codes "old.md#%ff") ∷ to (codes "c.md#top")
    ∷ to (codes "#self") ∷ to (codes "absent.md#top") ∷ Html (codes "</p>") ∷ []) (heading (codes "self") ∷ [])

-- what its links lead to: a text between them is none, and one out of the site is one
kinds_of_links : all_kinds.links
    ≡ Page (codes "b.md") None ∷ External ∷ Page (codes "hidden.md") None ∷ Page (codes "old.md") (Some (codes "top")) ∷ Nowhere
    ∷ Page (codes "b.md") (Some (codes "top")) ∷ Page (codes "b.md") (Some (codes "low/")) ∷ Page (codes "old.md") (Some (codes "%ff"))
    ∷ Page (codes "c.md") (Some (codes "top")) ∷ Page (codes "a.md") (Some (codes "self"))
    ∷ Page (codes "absent.md") (Some (codes "top")) ∷ []
unfolding chars encode encoded encoded_path is_path is_utf8 kind_on kinds path_written percent_decode percent_encode_byte put_all
    reference resolve without_dots
kinds_of_links = refl

abbrev with_links : List LinkKind → PageLinks
with_links links = record { links = links; headings = [] }

-- a site, and a reader who sees all of it but `hidden.md`, and who is led to a page that is none of its
abbrev site : List (List ℕ × PageLinks)
site = (
  codes "a.md",
  record {
    links = Page (codes "b.md") None ∷ External ∷ Page (codes "hidden.md") None ∷ Page (codes "old.md") (Some (codes "top")) ∷ Nowhere
        ∷ Page (codes "b.md") (Some (codes "top")) ∷ Page (codes "b.md") (Some (codes "low/"))
        ∷ Page (codes "old.md") (Some (codes "%ff")) ∷ Page (codes "c.md") (Some (codes "top"))
        ∷ Page (codes "a.md") (Some (codes "self")) ∷ Page (codes "absent.md") (Some (codes "top")) ∷ [];
    headings = heading (codes "self") ∷ [];
  },
)
    ∷ (codes "b.md", record { links = []; headings = heading (codes "top") ∷ heading (codes "end") ∷ [] })
    ∷ (codes "c.md", with_links (External ∷ Nowhere ∷ Page (codes "a.md") None ∷ Page (codes "elsewhere.md") None ∷ []))
    ∷ (codes "hidden.md", with_links (Page (codes "a.md") None ∷ Nowhere ∷ []))
    ∷ []

abbrev goals : List ℕ → Option (List ℕ)
goals path =
    if bytes_eq path (codes "a.md") then Some path
    else if bytes_eq path (codes "b.md") then Some path
    else if bytes_eq path (codes "c.md") then Some path
    else if bytes_eq path (codes "old.md") then Some (codes "b.md")
    else if bytes_eq path (codes "elsewhere.md") then Some path
    else None

abbrev fault : List ℕ → ℕ → Reason → List ℕ → Broken
fault source place reason target = record { source = source; place = place; reason = reason; target = target }

-- a link to a page that is hidden is as one to a page that isn't there; an alias is told as it is written
broken_links : broken goals (seen goals site)
    ≡ fault (codes "a.md") 3 reasons.Page (codes "hidden.md")
    ∷ fault (codes "a.md") 5 reasons.Path (codes "-")
    ∷ fault (codes "a.md") 7 reasons.Anchor (codes "b.md#low%2F")
    ∷ fault (codes "a.md") 8 reasons.Anchor (codes "old.md#%25ff")
    ∷ fault (codes "a.md") 9 reasons.Anchor (codes "c.md#top")
    ∷ fault (codes "a.md") 11 reasons.Page (codes "absent.md")
    ∷ fault (codes "c.md") 2 reasons.Path (codes "-")
    ∷ fault (codes "c.md") 4 reasons.Page (codes "elsewhere.md")
    ∷ []
unfolding broken encoded percent_encode_byte
broken_links = refl

-- by its path and by its alias, with an anchor that there is and with one that there isn't
links_to_b : backlinks goals (seen goals site) (codes "b.md") ≡ (codes "a.md", 5) ∷ []
unfolding backlinks
links_to_b = refl

-- its own links count, and those of a hidden page don't
links_to_a : backlinks goals (seen goals site) (codes "a.md") ≡ (codes "a.md", 1) ∷ (codes "c.md", 1) ∷ []
unfolding backlinks
links_to_a = refl

-- an alias is no page, and neither is one that is hidden
links_to_old : backlinks goals (seen goals site) (codes "old.md") ≡ []
unfolding backlinks
links_to_old = refl

links_to_hidden : backlinks goals (seen goals site) (codes "hidden.md") ≡ []
unfolding backlinks
links_to_hidden = refl

links_to_elsewhere : backlinks goals (seen goals site) (codes "elsewhere.md") ≡ []
unfolding backlinks
links_to_elsewhere = refl

abbrev entry : List ℕ → List Heading → Entry
entry path headings = record { path = path; headings = headings }

what_there_is : contents (seen goals site)
    ≡ entry (codes "a.md") (heading (codes "self") ∷ [])
    ∷ entry (codes "b.md") (heading (codes "top") ∷ heading (codes "end") ∷ [])
    ∷ entry (codes "c.md") []
    ∷ []
unfolding contents
what_there_is = refl

-- who sees the hidden page too finds its links
abbrev all_goals : List ℕ → Option (List ℕ)
all_goals path = if bytes_eq path (codes "hidden.md") then Some path else goals path

links_to_a_for_all : backlinks all_goals (seen all_goals site) (codes "a.md")
    ≡ (codes "a.md", 1) ∷ (codes "c.md", 1) ∷ (codes "hidden.md", 1) ∷ []
unfolding backlinks
links_to_a_for_all = refl

no_pages : broken goals [] ≡ []
unfolding broken
no_pages = refl

-- where no page is held, each path has one stamp at most
nothing_is_once : IsOnce map.empty
nothing_is_once path stamp other here there =
    absurd (both_ways false refl (sym (ap is_some (map.get-empty pair_cmp (path, stamp))) ∙ here))
