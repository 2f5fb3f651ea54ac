-- Pages (this project's choice): HTML cut at the opening tags of links, headings with anchors, texts, images; then the same in UTF-8.
use Rattle.std.specs.Prelude.{ℕ, List, [], ◌∷◌, map, flat_map, encode_utf8_all, option_map, if◌then◌else◌}
use Rattle.doc_rules.specs.Characters.{Text}
use Rattle.doc_rules.specs.Rules.{Rules}
use Rattle.doc_rules.specs.Destinations.{Target}
use Rattle.doc_rules.specs.Blocks.{Document, document_of}
use Rattle.doc_rules.specs.PlainTexts.{headings_of, texts_of}
use Rattle.doc_rules.specs.Anchors.{anchors_of}
use Rattle.doc_rules.specs.Html.{Character, LinkTag, ImageNote, Output, Written, output_of, Linker, link_tag, Shown, Href, Missing}
use Rattle.doc_page_parts.specs.declared.linker.Shown.{Shown as PageShown}
use Rattle.doc_page_parts.specs.declared.linker.Shown.TheVariants as page
use Rattle.doc_page_parts.specs.declared.rendered.Rendered.{Rendered}
use Rattle.doc_page_parts.specs.declared.rendered.Heading.{Heading}
use Rattle.doc_page_parts.specs.declared.rendered.Piece.{Piece}
use Rattle.doc_page_parts.specs.declared.rendered.Piece.TheVariants.{Html, Link}

-- HTML as it is written, or the opening tag of a link
pub data PagePiece : Type 0 where
  HtmlPiece : Text → PagePiece
  LinkPiece : Target → PagePiece

-- a heading, with its plain text
pub record PageHeading : Type 0 where
  pub level : ℕ
  pub anchor : Text
  pub text : Text

-- the page of a text
pub record Page : Type 0 where
  pub pieces : List PagePiece
  pub headings : List PageHeading
  pub texts : List Text
  pub images : List Text

-- ---- pieces

-- a character put before pieces
unfoldable pub onto_html : ℕ → List PagePiece → List PagePiece
onto_html c [] = HtmlPiece (c ∷ []) ∷ []
onto_html c (HtmlPiece text ∷ more) = HtmlPiece (c ∷ text) ∷ more
onto_html c (LinkPiece target ∷ more) = HtmlPiece (c ∷ []) ∷ LinkPiece target ∷ more

-- the pieces of what is written: characters between two links are one
unfoldable pub pieces_of : Output → List PagePiece
pieces_of [] = []
pieces_of (Character c ∷ more) = onto_html c (pieces_of more)
pieces_of (LinkTag target ∷ more) = LinkPiece target ∷ pieces_of more
pieces_of (ImageNote dest ∷ more) = pieces_of more

-- ---- images

-- the destination of an image that begins here
unfoldable pub noted : Written → List Text
noted (Character c) = []
noted (LinkTag target) = []
noted (ImageNote dest) = dest ∷ []

-- the destinations of the images in what is written, in their order
unfoldable pub images_in : Output → List Text
images_in = flat_map noted

-- the same, where a page tells its images
unfoldable pub images_told : Rules → Output → List Text
images_told rules output = if rules.images then images_in output else []

-- ---- headings

-- headings with these anchors, one each
unfoldable pub page_headings : List (ℕ × Text) → List Text → List PageHeading
page_headings [] anchors = []
page_headings (heading ∷ more) [] = []
page_headings (heading ∷ more) (anchor ∷ anchors) = record { level = heading.0; anchor = anchor; text = heading.1 } ∷ page_headings more
    anchors

-- the anchors of a document's headings
unfoldable pub document_anchors : Rules → Document → List Text
document_anchors rules document = anchors_of (map (λ heading. heading.1) (headings_of rules document))

-- ---- pages

-- the page of a document
unfoldable pub document_page : Rules → Document → Page
document_page rules document =
    let anchors : List Text = document_anchors rules document in
    let output : Output = output_of rules anchors document in
    record {
      pieces = pieces_of output;
      headings = page_headings (headings_of rules document) anchors;
      texts = texts_of rules document;
      images = images_told rules output;
    }

-- the page of a text
unfoldable pub page_of : Rules → Text → Page
page_of rules text = document_page rules (document_of rules text)

-- ---- links are shown

-- HTML as it stands, a link as the linker shows it
unfoldable pub piece_text : Linker → PagePiece → Text
piece_text linker (HtmlPiece text) = text
piece_text linker (LinkPiece target) = link_tag (linker target.dest) target.title

-- the pieces joined, with their links as the linker shows them
unfoldable pub filled : Linker → List PagePiece → Text
filled linker = flat_map (piece_text linker)

-- ---- pages in UTF-8

-- a piece in UTF-8
unfoldable pub encoded_piece : PagePiece → Piece
encoded_piece (HtmlPiece text) = Html (encode_utf8_all text)
encoded_piece (LinkPiece target) = Link (record { dest = encode_utf8_all target.dest; title = option_map encode_utf8_all target.title })

-- a heading in UTF-8
unfoldable pub encoded_heading : PageHeading → Heading
encoded_heading heading = record { level = heading.level; anchor = encode_utf8_all heading.anchor; text = encode_utf8_all heading.text }

-- a page in UTF-8
unfoldable pub encoded : Page → Rendered
encoded page = record {
  pieces = map encoded_piece page.pieces;
  headings = map encoded_heading page.headings;
  texts = map encode_utf8_all page.texts;
  images = map encode_utf8_all page.images;
}

-- what the renderer makes of a text
abbrev pub rendered_of : Rules → Text → Rendered
rendered_of rules text = encoded (page_of rules text)

-- how a link is shown, in UTF-8
unfoldable pub encoded_shown : Shown → PageShown
encoded_shown (Href href) = page.Href (encode_utf8_all href)
encoded_shown Missing = page.Missing
