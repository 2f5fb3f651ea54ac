-- HTML by bytes is HTML by characters, where links are shown alike.
use Rattle.std.proofs.Common.{◌≡◌, ℕ, List, [], ◌∷◌, ◌++◌, refl, ap, sym, ◌∙◌, append-nil}
use Rattle.std.specs.Prelude.{flat_map, encode_utf8_all, option_map}
use Rattle.std.specs.Char.{encode_utf8}
use Rattle.std.proofs.lemmas.List.Concat.{flat_map-append}
use Rattle.std.proofs.lemmas.Str.{encodes-append}
use Rattle.doc_page_parts.specs.declared.linker.Shown.{Shown}
use Rattle.doc_page_parts.specs.Pages.{opening_tag, filled as page_filled}
use Rattle.doc_rules.specs.Characters.{Text}
use Rattle.doc_rules.specs.Destinations.{Target}
use Rattle.doc_rules.specs.Rules.{Rules}
use Rattle.doc_rules.specs.Blocks.{Document}
use Rattle.doc_rules.specs.Html.{Character, LinkTag, ImageNote, Output, output_of, Linker, written_text, html_of}
use Rattle.doc_rules.specs.Pages.{Page, LinkPiece, filled, piece_text, encoded, encoded_piece}
use Rattle.doc_rules.specs.Laws.{ShowsAlike}
use Rattle.doc_rules.proofs.FillingLaws.{filling_is_by_bytes}
use Rattle.doc_html.specs.HtmlBytes.{written_bytes, html_bytes}

page_of_link : Target → Page
page_of_link target = record { pieces = LinkPiece target ∷ []; headings = []; texts = []; images = [] }

module _ (linker : Linker) (shown : List ℕ → Shown) (alike : ShowsAlike shown linker) where
  tag_by_bytes : (target : Target) → opening_tag (option_map encode_utf8_all target.title) (shown (encode_utf8_all target.dest))
      ≡ encode_utf8_all (flat_map (written_text linker) (LinkTag target ∷ []))
  unfolding page_of_link page_filled filled piece_text encoded encoded_piece written_text
  tag_by_bytes target =
      sym (append-nil (opening_tag (option_map encode_utf8_all target.title) (shown (encode_utf8_all target.dest))))
      ∙ filling_is_by_bytes linker shown alike (page_of_link target)

  output_by_bytes : (output : Output) → flat_map (written_bytes shown) output ≡ encode_utf8_all (flat_map (written_text linker) output)
  unfolding written_bytes written_text
  output_by_bytes [] = refl
  output_by_bytes (Character c ∷ more) = ap (λ behind. encode_utf8 c ++ behind) (output_by_bytes more)
  output_by_bytes (LinkTag target ∷ more) =
      ap (λ front. front ++ flat_map (written_bytes shown) more) (tag_by_bytes target)
      ∙ (ap (λ behind. encode_utf8_all (flat_map (written_text linker) (LinkTag target ∷ [])) ++ behind) (output_by_bytes more)
      ∙ (sym (encodes-append (flat_map (written_text linker) (LinkTag target ∷ [])) (flat_map (written_text linker) more))
      ∙ ap encode_utf8_all (sym (flat_map-append (written_text linker) (LinkTag target ∷ []) more))))
  output_by_bytes (ImageNote dest ∷ more) = output_by_bytes more

pub html_by_bytes : (rules : Rules) (anchors : List Text) (document : Document) (linker : Linker) (shown : List ℕ → Shown)
    → ShowsAlike shown linker → html_bytes rules shown anchors document ≡ encode_utf8_all (html_of rules linker anchors document)
unfolding html_bytes html_of
html_by_bytes rules anchors document linker shown alike = output_by_bytes linker shown alike (output_of rules anchors document)
