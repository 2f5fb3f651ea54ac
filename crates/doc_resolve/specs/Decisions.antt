-- Which pages the links of a page lead to for a reader. `goals` is as in Hrefs.
use Rattle.std.specs.Prelude.{ℕ, List, [], ◌∷◌, map, Option, None}
use Rattle.std.specs.List.{flat_map}
use Rattle.doc_page_parts.specs.declared.rendered.Piece.{Piece}
use Rattle.doc_page_parts.specs.declared.rendered.Piece.TheVariants.{Html, Link}
use Rattle.doc_page_parts.specs.declared.rendered.Rendered.{Rendered}
use Rattle.doc_resolve.specs.Links.{base_of, kind_on}
use Rattle.doc_resolve.specs.References.{Uri}
use Rattle.doc_resolve.specs.declared.link_kind.LinkKind.{LinkKind}
use Rattle.doc_resolve.specs.declared.link_kind.LinkKind.TheVariants.{External, Page, Nowhere}

-- the page that a link leads to
abbrev pub goal_of : (List ℕ → Option (List ℕ)) → LinkKind → Option (List ℕ)
goal_of goals External = None
goal_of goals (Page path anchor) = goals path
goal_of goals Nowhere = None

-- the pages that links lead to
abbrev pub goals_of : (List ℕ → Option (List ℕ)) → List LinkKind → List (Option (List ℕ))
goals_of goals kinds = map (goal_of goals) kinds

-- of a piece, where it is a link
abbrev pub decisions_in : (List ℕ → Option (List ℕ)) → Uri → Piece → List (Option (List ℕ))
decisions_in goals base (Html text) = []
decisions_in goals base (Link spot) = goal_of goals (kind_on base spot.dest) ∷ []

-- of each link of the page at this path, in order (this project's choice)
unfoldable pub decisions : (List ℕ → Option (List ℕ)) → List ℕ → Rendered → List (Option (List ℕ))
decisions goals page rendered = flat_map (decisions_in goals (base_of page)) rendered.pieces
