-- Pieces of a page as texts, each with a number that says what it is. All of this is this project's choice.
use Rattle.std.specs.Prelude.{ℕ, List, [], ◌∷◌, ◌++◌, ◌==◌, Option, Some, None, if◌then◌else◌}
use Rattle.std.specs.List.{flat_map}
use Rattle.doc_page_parts.specs.declared.rendered.Piece.{Piece}
use Rattle.doc_page_parts.specs.declared.rendered.Piece.TheVariants.{Html, Link}

-- the text of a title
abbrev pub title_texts : Option (List ℕ) → List (List ℕ × ℕ)
title_texts None = []
title_texts (Some title) = (title, 2) ∷ []

-- the texts of a piece: HTML is 0, the destination of a link 1, and 2 a title, before the destination of its link
abbrev pub piece_texts : Piece → List (List ℕ × ℕ)
piece_texts (Html html) = (html, 0) ∷ []
piece_texts (Link spot) = title_texts spot.title ++ (spot.dest, 1) ∷ []

-- the texts of pieces, joined
abbrev pub texts_of : List Piece → List (List ℕ × ℕ)
texts_of pieces = flat_map piece_texts pieces

-- the title that a text is, for the link behind it
abbrev pub title_in : List ℕ × ℕ → Option (List ℕ)
title_in text = if text.1 == 2 then Some text.0 else None

-- the piece that a text is, behind this title; a title is none
abbrev pub piece_in : Option (List ℕ) → List ℕ × ℕ → List Piece
piece_in title text =
    if text.1 == 0 then Html text.0 ∷ []
    else if text.1 == 1 then Link (record { dest = text.0; title = title }) ∷ []
    else []

-- the pieces that texts are, behind this title
abbrev pub pieces_after : Option (List ℕ) → List (List ℕ × ℕ) → List Piece
pieces_after title [] = []
pieces_after title (text ∷ rest) = piece_in title text ++ pieces_after (title_in text) rest

-- the pieces that texts are
abbrev pub pieces_in : List (List ℕ × ℕ) → List Piece
pieces_in texts = pieces_after None texts
