-- What is shown of a page's links depends on the reader by its decisions alone.
use Rattle.std.proofs.Common.{◌≡◌, ℕ, List, [], ◌∷◌, ◌++◌, Option, refl, ap, ◌∙◌}
use Rattle.std.specs.List.{flat_map}
use Rattle.doc_page_parts.specs.Pages.{opening_tag, filled_piece, filled}
use Rattle.doc_page_parts.specs.declared.rendered.Piece.{Piece}
use Rattle.doc_page_parts.specs.declared.rendered.Piece.TheVariants.{Html, Link}
use Rattle.doc_resolve.specs.Decisions.{goal_of, goals_of, decisions_in, decisions}
use Rattle.doc_resolve.specs.Hrefs.{shown_page, shown_by, shown}
use Rattle.doc_resolve.specs.Laws.{DecisionsAreGoals, LinksAreDecided}
use Rattle.doc_resolve.specs.Links.{base_of, kind_on, kinds, kinds_in}
use Rattle.doc_resolve.specs.declared.link_kind.LinkKind.{LinkKind}
use Rattle.doc_resolve.specs.declared.link_kind.LinkKind.TheVariants.{External, Page, Nowhere}

-- a link is shown by the page that it leads to
same_shown : (one other : List ℕ → Option (List ℕ)) (dest : List ℕ) (kind : LinkKind) → goal_of one kind ≡ goal_of other kind
    → shown_by one dest kind ≡ shown_by other dest kind
same_shown one other dest External same = refl
same_shown one other dest (Page path anchor) same = ap (λ goal. shown_page goal anchor) same
same_shown one other dest Nowhere same = refl

same_filled : (one other : List ℕ → Option (List ℕ)) (page : List ℕ) (pieces : List Piece)
    → flat_map (decisions_in one (base_of page)) pieces ≡ flat_map (decisions_in other (base_of page)) pieces
    → flat_map (filled_piece (shown one page)) pieces ≡ flat_map (filled_piece (shown other page)) pieces
same_filled one other page [] same = refl
same_filled one other page (Html text ∷ pieces) same = ap (λ rest. text ++ rest) (same_filled one other page pieces same)
same_filled one other page (Link spot ∷ pieces) same =
    let kind = kind_on (base_of page) spot.dest in
    let first : goal_of one kind ≡ goal_of other kind = cc in
    let rest : flat_map (decisions_in one (base_of page)) pieces ≡ flat_map (decisions_in other (base_of page)) pieces = cc in
    ap (λ how. opening_tag spot.title how ++ flat_map (filled_piece (shown one page)) pieces) (same_shown one other spot.dest kind first)
    ∙ ap (λ more. opening_tag spot.title (shown other page spot.dest) ++ more) (same_filled one other page pieces rest)

pub links_are_decided : LinksAreDecided
unfolding decisions filled
links_are_decided one other page rendered same = same_filled one other page rendered.pieces same

same_goals : (goals : List ℕ → Option (List ℕ)) (page : List ℕ) (pieces : List Piece)
    → flat_map (decisions_in goals (base_of page)) pieces ≡ goals_of goals (flat_map (kinds_in (base_of page)) pieces)
same_goals goals page [] = refl
same_goals goals page (Html text ∷ pieces) = same_goals goals page pieces
same_goals goals page (Link spot ∷ pieces) =
    ap (λ rest. goal_of goals (kind_on (base_of page) spot.dest) ∷ rest) (same_goals goals page pieces)

pub decisions_are_goals : DecisionsAreGoals
unfolding decisions kinds
decisions_are_goals goals page rendered = same_goals goals page rendered.pieces
