-- What a writer of pages holds.
use Rattle.std.specs.Prelude.{◌≡◌, ℕ, Bool, List, [], ◌++◌, map, encode_utf8_all, Some, if◌then◌else◌}
use Rattle.doc_page_parts.specs.declared.rendered.Piece.{Piece}
use Rattle.doc_page_parts.specs.declared.rendered.Heading.{Heading}
use Rattle.doc_page_parts.specs.declared.rendered.Rendered.{Rendered}
use Rattle.doc_rules.specs.Characters.{Text}
use Rattle.doc_rules.specs.Html.{Output, characters, is_fresh}
use Rattle.doc_rules.specs.Pages.{PagePiece, pieces_of, images_in, encoded_piece, encoded_heading, encoded}
use Rattle.doc_html_anchors.specs.Uses.{Uses}
use Rattle.doc_html.specs.ProgressSteps.{Progress}

-- these pieces, and this text behind them, which what is written next goes on
abbrev pub IsSplit : Output → List PagePiece → Text → Type 0
IsSplit output pieces behind = (more : Output) → pieces_of (output ++ more) ≡ pieces ++ pieces_of (characters behind ++ more)

-- the destinations of the images in what is written, where they are told
abbrev pub images_by : Bool → Output → List Text
images_by tells output = if tells then images_in output else []

-- these pieces and the HTML behind them are what was written, with these headings, texts, images and anchors so far
pub record HoldsPage (pieces : List Piece) (html : List ℕ) (fresh : Bool) (anchors : List Text) (headings : List Heading)
    (texts : List (List ℕ)) (tells : Bool) (images : List (List ℕ)) (p : Progress) : Type 0 where
  pub cut : List PagePiece
  pub behind : Text
  pub used : List Text
  pub splits : IsSplit p.output cut behind
  pub pieces_are : pieces ≡ map encoded_piece cut
  pub html_is : html ≡ encode_utf8_all behind
  pub begins : fresh ≡ is_fresh p.output
  pub named : p.used ≡ Some used
  pub uses : Uses anchors used
  pub headings_are : headings ≡ map encoded_heading p.headings
  pub texts_are : texts ≡ map encode_utf8_all p.texts
  pub telling : tells ≡ p.manner.images
  pub images_are : images ≡ map encode_utf8_all (images_by tells p.output)

-- the page of what was made of a document
abbrev pub page_told : Progress → Rendered
page_told p = encoded (record {
  pieces = pieces_of p.output;
  headings = p.headings;
  texts = p.texts;
  images = images_by p.manner.images p.output;
})
