-- Laws of pages; the proofs are in proofs/.
use Rattle.std.specs.Prelude.{ℕ, List, [], ◌∷◌, ⊤}
use Rattle.doc_page.specs.Plain.{plain_page}
use Rattle.doc_page_parts.specs.declared.rendered.Piece.{Piece}
use Rattle.doc_page_parts.specs.declared.rendered.Piece.TheVariants.{Html, Link}

-- no HTML piece is empty, and no two stand side by side
abbrev pub IsCut : List Piece → Type 0
IsCut [] = ⊤
IsCut (Link spot ∷ more) = IsCut more
IsCut (Html [] ∷ more) = ⊥
IsCut (Html (b ∷ bytes) ∷ []) = ⊤
IsCut (Html (b ∷ bytes) ∷ Link spot ∷ more) = IsCut more
IsCut (Html (b ∷ bytes) ∷ Html other ∷ more) = ⊥

-- this holds of the page of each plain text
abbrev pub PlainPagesAreCut : Type 0
PlainPagesAreCut = (text : List ℕ) → IsCut (plain_page text).pieces
