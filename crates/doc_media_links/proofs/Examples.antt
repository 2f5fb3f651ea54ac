-- Worked examples of links to media, computed from the definitions alone.
use Rattle.std.proofs.Common.{◌≡◌, ℕ, List, [], ◌∷◌, true, false, codes, refl}
use Rattle.std.proofs.Math.Utf8.{encode}
use Rattle.std.specs.Prelude.{Option, Some, None, bytes_eq, if◌then◌else◌}
use Rattle.std.specs.Str.{chars, is_utf8}
use Rattle.percent_encoding.specs.Percent.{percent_decode, percent_encode_byte}
use Rattle.doc_links_pages.specs.declared.answers.Broken.{Broken}
use Rattle.doc_links_pages.specs.declared.answers.Reason.{Reason}
use Rattle.doc_links_pages.specs.declared.answers.Reason.TheVariants as reasons
use Rattle.doc_media.specs.Media.{Beside}
use Rattle.doc_media_links.specs.Images.{broken_images, told_of}
use Rattle.doc_media_links.specs.MediaLinks.{broken_beside, lead_to_media, shown_beside}
use Rattle.doc_page_encoding.specs.Encoding.{destination, encoded, encoded_path}
use Rattle.doc_page_parts.specs.Escaping.{escaped}
use Rattle.doc_page_parts.specs.Paths.{is_path}
use Rattle.doc_page_parts.specs.declared.linker.Shown.TheVariants.{Href, Missing}
use Rattle.doc_page_parts.specs.declared.rendered.Piece.{Piece}
use Rattle.doc_page_parts.specs.declared.rendered.Piece.TheVariants.{Html, Link}
use Rattle.doc_page_parts.specs.declared.rendered.Rendered.{Rendered}
use Rattle.doc_resolve.specs.DotSegments.{put_all, without_dots}
use Rattle.doc_resolve.specs.Links.{kind_on, kinds}
use Rattle.doc_resolve.specs.References.{reference}
use Rattle.doc_resolve.specs.Resolution.{resolve}
use Rattle.doc_resolve.specs.WrittenPaths.{path_written}
use Rattle.doc_resolve.specs.declared.link_kind.LinkKind.TheVariants.{External, Page, Nowhere}

-- names to unfold where an example computes
unfoldable computing : Unit {0}
unfolding chars encode encoded encoded_path is_path is_utf8 kind_on path_written percent_decode percent_encode_byte put_all reference
    resolve without_dots destination escaped
computing = tt

-- a reader who sees the page `guide/start.md` and the medium `guide/doc/spec.PDF`, and one who sees no medium
abbrev goals : List ℕ → Option (List ℕ)
goals path = if bytes_eq path (codes "guide/start.md") then Some path else None

abbrev seen : Beside
seen = Some ((codes "guide/doc/spec.PDF", record { groups = []; text = [] }) ∷ [])

abbrev hidden : Beside
hidden = Some []

medium_is_seen : shown_beside goals seen (codes "guide/start.md") (codes "doc/spec.PDF") ≡ Href (codes "/page/guide/doc/spec.PDF")
unfolding computing
medium_is_seen = refl

-- the fragment stays, as viewers read it
page_of_a_medium : shown_beside goals seen (codes "guide/start.md") (codes "doc/spec.PDF#page=2")
    ≡ Href (codes "/page/guide/doc/spec.PDF#page=2")
unfolding computing
page_of_a_medium = refl

-- what is encoded stays so, and the rest is written as in HTML
fragment_is_written : shown_beside goals seen (codes "guide/start.md") (codes "doc/spec.PDF#a%3Db&c d")
    ≡ Href (codes "/page/guide/doc/spec.PDF#a%3Db&amp;c%20d")
unfolding computing
fragment_is_written = refl

empty_fragment : shown_beside goals seen (codes "guide/start.md") (codes "doc/spec.PDF#") ≡ Href (codes "/page/guide/doc/spec.PDF")
unfolding computing
empty_fragment = refl

-- a page's anchor is encoded as before
page_stays : shown_beside goals seen (codes "guide/start.md") (codes "#page=2") ≡ Href (codes "/page/guide/start.md#page%3D2")
unfolding computing
page_stays = refl

hidden_medium : shown_beside goals hidden (codes "guide/start.md") (codes "doc/spec.PDF") ≡ Missing
unfolding computing
hidden_medium = refl

no_media : shown_beside goals None (codes "guide/start.md") (codes "doc/spec.PDF") ≡ Missing
unfolding computing
no_media = refl

leading : lead_to_media seen (External ∷ Page (codes "guide/z.zip") None ∷ Page (codes "guide/doc/spec.PDF") (Some (codes "x")) ∷ []) ≡ true
leading = refl

leading_nowhere : lead_to_media seen (Nowhere ∷ Page (codes "guide/z.zip") None ∷ []) ≡ false
leading_nowhere = refl

-- of three links that are broken among pages the one to the medium isn't
abbrev broken_at : ℕ → Reason → List ℕ → Broken
broken_at place reason target = record { source = codes "guide/start.md"; place = place; reason = reason; target = target }

one_is_not : broken_beside seen (broken_at 1 reasons.Page (codes "guide/doc/spec.PDF") ∷ broken_at 3 reasons.Page (codes "guide/z.zip")
    ∷ broken_at 4 reasons.Path (codes "-") ∷ [])
    ≡ broken_at 3 reasons.Page (codes "guide/z.zip") ∷ broken_at 4 reasons.Path (codes "-") ∷ []
unfolding computing
one_is_not = refl

-- ---- images: of `guide/x.png` alone, or of nothing

abbrev picture : Beside
picture = Some ((codes "guide/x.png", record { groups = []; text = [] }) ∷ [])

abbrev image_at : ℕ → List ℕ → Broken
image_at place target = broken_at place reasons.Image target

-- a medium that isn't there, a source that writes no path, and a page
three_show_nothing : broken_images picture (codes "guide/start.md")
    (codes "x.png" ∷ codes "z.png" ∷ codes "%ff" ∷ codes "start.md" ∷ [])
    ≡ image_at 2 (codes "guide/z.png") ∷ image_at 3 (codes "-") ∷ image_at 4 (codes "guide/start.md") ∷ []
unfolding computing broken_images
three_show_nothing = refl

-- a query and a fragment lead nowhere else
asked_for : broken_images picture (codes "guide/start.md") (codes "/guide/x.png?small#top" ∷ codes "../guide/./x%2Epng" ∷ []) ≡ []
unfolding computing broken_images
asked_for = refl

-- the second time too
told_twice : broken_images picture (codes "guide/start.md") (codes "z.png" ∷ codes "z.png" ∷ [])
    ≡ image_at 1 (codes "guide/z.png") ∷ image_at 2 (codes "guide/z.png") ∷ []
unfolding computing broken_images
told_twice = refl

out_of_the_site : broken_images picture (codes "guide/start.md") (codes "https://h/x.png" ∷ codes "//h/z.png" ∷ []) ≡ []
unfolding computing broken_images
out_of_the_site = refl

hidden_picture : broken_images hidden (codes "guide/start.md") (codes "x.png" ∷ []) ≡ image_at 1 (codes "guide/x.png") ∷ []
unfolding computing broken_images
hidden_picture = refl

without_media : broken_images None (codes "guide/start.md") (codes "x.png" ∷ codes "z.png" ∷ codes "%ff" ∷ []) ≡ []
unfolding broken_images
without_media = refl

-- a page with links to a medium, to nothing and to itself, and with two images
abbrev to : List ℕ → Piece
to dest = Link (record { dest = dest; title = None })

abbrev start : Rendered
start = record {
  pieces = Html (codes "<p>") ∷ to (codes "x.png") ∷ to (codes "z.png") ∷ to (codes "start.md") ∷ Html (codes "</p>") ∷ [];
  headings = [];
  texts = [];
  images = codes "z.png" ∷ codes "x.png" ∷ [];
}

-- what a link shows and an image doesn't: a page may be linked, and a medium may be both
links_and_images : told_of goals ((codes "guide/start.md", record { links = []; headings = [] }) ∷ []) picture (codes "guide/start.md", start)
    ≡ broken_at 2 reasons.Page (codes "guide/z.png") ∷ image_at 1 (codes "guide/z.png") ∷ []
unfolding computing broken_images kinds
links_and_images = refl
