-- Pages: what a renderer gives, and how a reader's page is filled from it.
use Rattle.std.specs.Prelude.{ℕ, List, [], ◌∷◌, ◌++◌, Bool, true, false, codes, Option, Some, None}
use Rattle.std.specs.List.{flat_map}
use Rattle.doc_page_parts.specs.Escaping.{escaped}
use Rattle.doc_page_parts.specs.declared.rendered.Rendered.{Rendered}
use Rattle.doc_page_parts.specs.declared.rendered.Piece.{Piece}
use Rattle.doc_page_parts.specs.declared.rendered.Piece.TheVariants.{Html, Link}
use Rattle.doc_page_parts.specs.declared.linker.Shown.{Shown}
use Rattle.doc_page_parts.specs.declared.linker.Shown.TheVariants.{Href, Missing}

-- whether the list has no element
abbrev pub is_empty : {X : Type 0} → List X → Bool
is_empty [] = true
is_empty (x ∷ xs) = false

-- the attribute of a title, which is written also where the title is empty (the HTML of CommonMark
-- 0.31.2, section 6.3)
abbrev pub title_attribute : Option (List ℕ) → List ℕ
title_attribute None = []
title_attribute (Some title) = codes " title=\"" ++ escaped title ++ codes "\""

-- the opening tag of a link (section 6.3); one that leads nowhere has no title, this project's choice
abbrev pub opening_tag : Option (List ℕ) → Shown → List ℕ
opening_tag title (Href href) =
    codes "<a href=\"" ++ href ++ codes "\"" ++ title_attribute title ++ codes ">"
opening_tag title Missing = codes "<a class=\"missing\">"

-- a piece, its link shown as the reader sees it; this project's choice
abbrev pub filled_piece : (List ℕ → Shown) → Piece → List ℕ
filled_piece shown (Html html) = html
filled_piece shown (Link spot) = opening_tag spot.title (shown spot.dest)

-- the pieces of a page, joined; this project's choice
unfoldable pub filled : (List ℕ → Shown) → Rendered → List ℕ
filled shown page = flat_map (filled_piece shown) page.pieces
