-- Filling a page with its links is the same in UTF-8 as in characters.
use Rattle.std.proofs.Common.{◌≡◌, ℕ, Bool, true, false, List, [], ◌∷◌, ◌++◌, refl, ap, sym, ◌∙◌, map}
use Rattle.std.specs.Prelude.{◌==◌, if◌then◌else◌, flat_map, encode_utf8_all, Option, Some, None, option_map, codes}
use Rattle.std.specs.Char.{encode_utf8}
use Rattle.std.proofs.lemmas.Str.{encodes-append}
use Rattle.doc_page_parts.specs.Escaping.{escaped_byte, escaped}
use Rattle.doc_page_parts.specs.Pages.{title_attribute, opening_tag, filled_piece, filled as page_filled}
use Rattle.doc_page_parts.specs.declared.linker.Shown.{Shown as PageShown}
use Rattle.doc_rules.specs.Characters.{Text}
use Rattle.doc_rules.specs.Escaping.{escaped_char, html_escape}
use Rattle.doc_rules.specs.Blocks.{Document, document_of}
use Rattle.doc_rules.specs.Html.{Output, Linker, Shown, Href, Missing, link_tag, output_of, html_of}
use Rattle.doc_rules.specs.Pages.{PagePiece, HtmlPiece, LinkPiece, document_anchors, document_page, page_of, piece_text, filled}
use Rattle.doc_rules.specs.Pages.{encoded_piece, encoded, encoded_shown}
use Rattle.doc_rules.specs.Laws.{ShowsAlike, FillingIsByBytes, FilledPagesAreHtml}
use Rattle.doc_rules.proofs.EscapingLaws.{escaping_is_by_bytes}
use Rattle.doc_rules.proofs.PieceLaws.{pieces_join}

-- ---- tags

-- characters are escaped as bytes are
-- a cascade of tests is a match on each
pub same_choice : (c : ℕ) (a b d e : Bool) →
    (if a then codes "&amp;" else (if b then codes "&lt;" else (if d then codes "&gt;" else (if e then codes "&quot;" else c ∷ []))))
    ≡ elim a [
      | true ↦ codes "&amp;"
      | false ↦ elim b [
        | true ↦ codes "&lt;"
        | false ↦ elim d
            [ true ↦ codes "&gt;" | false ↦ elim e [ true ↦ codes "&quot;" | false ↦ c ∷ [] ] ]
      ]
    ]
same_choice c true b d e = refl
same_choice c false true d e = refl
same_choice c false false true e = refl
same_choice c false false false true = refl
same_choice c false false false false = refl

same_escape : (c : ℕ) → escaped_byte c ≡ escaped_char c
unfolding escaped_char
same_escape c = same_choice c (c == 38) (c == 60) (c == 62) (c == 34)

same_escapes : (text : Text) → escaped text ≡ html_escape text
unfolding escaped html_escape
same_escapes [] = refl
same_escapes (c ∷ rest) = ap (λ front. front ++ escaped rest) (same_escape c) ∙ ap (λ more. escaped_char c ++ more) (same_escapes rest)

escapes_encoded : (text : Text) → encode_utf8_all (escaped text) ≡ escaped (encode_utf8_all text)
escapes_encoded text = ap encode_utf8_all (same_escapes text) ∙ escaping_is_by_bytes text

title_encoded : (title : Option Text) → encode_utf8_all (title_attribute title) ≡ title_attribute (option_map encode_utf8_all title)
unfolding encode_utf8
title_encoded None = refl
title_encoded (Some title) =
    let name : Text = codes " title=\"" in
    encodes-append (name ++ escaped title) (codes "\"")
    ∙ ap (λ front. front ++ codes "\"") (encodes-append name (escaped title) ∙ ap (λ value. name ++ value) (escapes_encoded title))

tag_encoded : (shown : Shown) (title : Option Text) → encode_utf8_all (link_tag shown title)
    ≡ opening_tag (option_map encode_utf8_all title) (encoded_shown shown)
unfolding link_tag encoded_shown encode_utf8
tag_encoded Missing title = refl
tag_encoded (Href href) title =
    let name : Text = codes "<a href=\"" in
    let quote : Text = codes "\"" in
    encodes-append (name ++ href ++ quote ++ title_attribute title) (codes ">")
    ∙ ap (λ front. front ++ codes ">")
    (encodes-append (name ++ href ++ quote) (title_attribute title)
    ∙ (ap (λ front. front ++ encode_utf8_all (title_attribute title)) (encodes-append (name ++ href) quote
    ∙ ap (λ front. front ++ quote) (encodes-append name href))
    ∙ ap (λ attribute. name ++ encode_utf8_all href ++ quote ++ attribute) (title_encoded title)))

-- ---- pieces

module _ (linker : Linker) (shown : List ℕ → PageShown) (alike : ShowsAlike shown linker) where
  piece_encoded : (piece : PagePiece) → filled_piece shown (encoded_piece piece) ≡ encode_utf8_all (piece_text linker piece)
  unfolding encoded_piece piece_text
  piece_encoded (HtmlPiece text) = refl
  piece_encoded (LinkPiece target) =
      ap (opening_tag (option_map encode_utf8_all target.title)) (alike target.dest) ∙ sym (tag_encoded (linker target.dest) target.title)

  pieces_encoded : (some : List PagePiece) → flat_map (filled_piece shown) (map encoded_piece some)
      ≡ encode_utf8_all (flat_map (piece_text linker) some)
  pieces_encoded [] = refl
  pieces_encoded (piece ∷ more) =
      ap (λ front. front ++ flat_map (filled_piece shown) (map encoded_piece more)) (piece_encoded piece)
      ∙ (ap (λ behind. encode_utf8_all (piece_text linker piece) ++ behind) (pieces_encoded more)
      ∙ sym (encodes-append (piece_text linker piece) (flat_map (piece_text linker) more)))

pub filling_is_by_bytes : FillingIsByBytes
unfolding page_filled filled encoded
filling_is_by_bytes linker shown alike page = pieces_encoded linker shown alike page.pieces

pub filled_pages_are_html : FilledPagesAreHtml
unfolding page_of document_page html_of
filled_pages_are_html rules text linker shown alike =
    let document : Document = document_of rules text in
    let output : Output = output_of rules (document_anchors rules document) document in
    filling_is_by_bytes linker shown alike (document_page rules document) ∙ ap encode_utf8_all (pieces_join linker output)
