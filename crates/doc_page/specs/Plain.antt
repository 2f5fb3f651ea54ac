-- The page of a plain text: paragraphs of escaped lines, without headings and links. All of this is
-- this project's choice.
use Rattle.std.specs.Prelude.{ℕ, List, [], ◌∷◌, ◌++◌, map, not, filter, codes}
use Rattle.std.specs.List.{flat_map, slice_split, join_with_byte}
use Rattle.doc_page_parts.specs.Escaping.{escaped}
use Rattle.doc_page_parts.specs.Lines.{lines, without_ending, stripped}
use Rattle.doc_page_parts.specs.Pages.{is_empty}
use Rattle.doc_page_parts.specs.declared.rendered.Rendered.{Rendered}
use Rattle.doc_page_parts.specs.declared.rendered.Piece.{Piece}
use Rattle.doc_page_parts.specs.declared.rendered.Piece.TheVariants.{Html}

-- the lines of a text, each without its ending and without spaces and tabs at both ends
abbrev pub stripped_lines : List ℕ → List (List ℕ)
stripped_lines text = map (λ line. stripped (without_ending line)) (lines text)

-- the longest runs of stripped lines that are not blank
abbrev pub runs : List (List ℕ) → List (List (List ℕ))
runs lines = filter (λ run. not (is_empty run)) (slice_split is_empty lines)

-- each run as one text, its lines joined by LF
unfoldable pub paragraphs : List (List ℕ) → List (List ℕ)
paragraphs lines = map (join_with_byte 10) (runs lines)

-- the paragraphs of a plain text, not escaped
abbrev pub plain_texts : List ℕ → List (List ℕ)
plain_texts text = paragraphs (stripped_lines text)

-- the HTML of paragraphs
unfoldable pub plain_html : List (List ℕ) → List ℕ
plain_html texts = flat_map (λ text. codes "<p>" ++ escaped text ++ codes "</p>\n") texts

-- the HTML as one piece, or none where it is empty
abbrev pub html_pieces : List ℕ → List Piece
html_pieces [] = []
html_pieces (b ∷ bs) = Html (b ∷ bs) ∷ []

-- the page of a plain text
abbrev pub plain_page : List ℕ → Rendered
plain_page text = record {
  pieces = html_pieces (plain_html (plain_texts text));
  headings = [];
  texts = plain_texts text;
  images = [];
}
