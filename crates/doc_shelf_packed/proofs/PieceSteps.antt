-- Pieces, one text after another.
use Rattle.std.proofs.Common.{◌≡◌, ℕ, List, [], ◌∷◌, ◌++◌, append_assoc, refl, ap, ◌∙◌}
use Rattle.std.specs.Prelude.{Option, Some, None}
use Rattle.doc_page_parts.specs.declared.rendered.Piece.{Piece}
use Rattle.doc_page_parts.specs.declared.rendered.Piece.TheVariants.{Html, Link}
use Rattle.doc_shelf_packed.specs.Pieces.{pieces_in, texts_of, title_texts}

link_again : (title : Option (List ℕ)) (dest : List ℕ) (rest : List (List ℕ × ℕ))
    → pieces_in (title_texts title ++ (dest, 1) ∷ rest) ≡ Link (record { dest = dest; title = title }) ∷ pieces_in rest
link_again None dest rest = refl
link_again (Some title) dest rest = refl

-- the texts of pieces are these pieces
pub pieces_again : (pieces : List Piece) → pieces_in (texts_of pieces) ≡ pieces
pieces_again [] = refl
pieces_again (Html html ∷ rest) = ap (λ ps. Html html ∷ ps) (pieces_again rest)
pieces_again (Link spot ∷ rest) =
    ap pieces_in (append_assoc (title_texts spot.title) ((spot.dest, 1) ∷ []) (texts_of rest))
    ∙ link_again spot.title spot.dest (texts_of rest) ∙ ap (λ ps. Link spot ∷ ps) (pieces_again rest)

-- texts that were packed are those of the pieces
pub packed_of : (pieces : List Piece) (texts packed : List (List ℕ × ℕ)) → texts ≡ texts_of pieces → packed ≡ texts
    → pieces_in packed ≡ pieces
packed_of pieces texts packed are is = ap pieces_in (is ∙ are) ∙ pieces_again pieces
