-- Pages none of whose links leads to a medium that is seen.
use Rattle.std.proofs.Common.{◌≡◌, ℕ, false, true, List, [], ◌∷◌, ◌++◌, Option, Some, None, refl, ap, ◌∙◌}
use Rattle.std.specs.Prelude.{Bool, ◌||◌}
use Rattle.std.specs.List.{flat_map}
use Rattle.doc_media.specs.Media.{Beside}
use Rattle.doc_media_links.specs.Laws.{PagesWithoutMedia}
use Rattle.doc_media_links.specs.MediaLinks.{any_leads, leads_to_medium, shown_as_medium, shown_medium, shown_or_medium}
use Rattle.doc_page_parts.specs.Pages.{filled, filled_piece, opening_tag}
use Rattle.doc_page_parts.specs.declared.linker.Shown.{Shown}
use Rattle.doc_page_parts.specs.declared.linker.Shown.TheVariants.{Href, Missing}
use Rattle.doc_page_parts.specs.declared.rendered.Piece.{Piece}
use Rattle.doc_page_parts.specs.declared.rendered.Piece.TheVariants.{Html, Link}
use Rattle.doc_resolve.specs.Hrefs.{shown}
use Rattle.doc_resolve.specs.Links.{base_of, classify, kind_on, kinds, kinds_in}
use Rattle.doc_resolve.specs.declared.link_kind.LinkKind.{LinkKind}
use Rattle.doc_resolve.specs.declared.link_kind.LinkKind.TheVariants.{External, Page, Nowhere}

as_medium : (media : Beside) (dest : List ℕ) (kind : LinkKind) → leads_to_medium media kind ≡ false
    → shown_as_medium media dest kind ≡ Missing
as_medium media dest External none = refl
as_medium media dest (Page path anchor) none = ap (λ sees. shown_medium sees path dest) none
as_medium media dest Nowhere none = refl

or_medium : (media : Beside) (page dest : List ℕ) (how : Shown) → leads_to_medium media (classify page dest) ≡ false
    → shown_or_medium media page dest how ≡ how
or_medium media page dest (Href address) none = refl
or_medium media page dest Missing none = as_medium media dest (classify page dest) none

pub neither : (a b : Bool) → (a || b) ≡ false → a ≡ false
neither false b e = refl
neither true b e = absurd (cc)

pub nor : (a b : Bool) → (a || b) ≡ false → b ≡ false
nor false b e = e
nor true b e = absurd (cc)

same_filled : (goals : List ℕ → Option (List ℕ)) (media : Beside) (page : List ℕ) (pieces : List Piece)
    → any_leads media (flat_map (kinds_in (base_of page)) pieces) ≡ false
    → flat_map (filled_piece (λ dest. shown_or_medium media page dest (shown goals page dest))) pieces
    ≡ flat_map (filled_piece (shown goals page)) pieces
same_filled goals media page [] none = refl
same_filled goals media page (Html text ∷ pieces) none =
    ap (λ rest. text ++ rest) (same_filled goals media page pieces none)
same_filled goals media page (Link spot ∷ pieces) none =
    let first = neither (leads_to_medium media (kind_on (base_of page) spot.dest)) _ none in
    let rest = nor (leads_to_medium media (kind_on (base_of page) spot.dest)) _ none in
    ap (λ how. opening_tag spot.title how
    ++ flat_map (filled_piece (λ dest. shown_or_medium media page dest (shown goals page dest))) pieces)
    (or_medium media page spot.dest (shown goals page spot.dest) first)
    ∙ ap (λ more. opening_tag spot.title (shown goals page spot.dest) ++ more) (same_filled goals media page pieces rest)

pub pages_without_media : PagesWithoutMedia
unfolding filled kinds
pages_without_media goals None page rendered none = refl
pages_without_media goals (Some held) page rendered none = same_filled goals (Some held) page rendered.pieces none
