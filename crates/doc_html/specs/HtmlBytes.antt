-- Documents as HTML in UTF-8, however their links are shown.
use Rattle.std.specs.Prelude.{ℕ, List, [], flat_map, encode_utf8_all, option_map}
use Rattle.std.specs.Char.{encode_utf8}
use Rattle.doc_page_parts.specs.Pages.{opening_tag}
use Rattle.doc_page_parts.specs.declared.linker.Shown.{Shown}
use Rattle.doc_rules.specs.Characters.{Text}
use Rattle.doc_rules.specs.Rules.{Rules}
use Rattle.doc_rules.specs.Blocks.{Document}
use Rattle.doc_rules.specs.Html.{Written, Character, LinkTag, ImageNote, output_of}

-- a character in UTF-8, the opening tag of a link as its destination is shown, a note of an image not at all
unfoldable pub written_bytes : (List ℕ → Shown) → Written → List ℕ
written_bytes shown (Character c) = encode_utf8 c
written_bytes shown (LinkTag target) = opening_tag (option_map encode_utf8_all target.title) (shown (encode_utf8_all target.dest))
written_bytes shown (ImageNote dest) = []

-- a document as HTML in UTF-8, its headings with these anchors
unfoldable pub html_bytes : Rules → (List ℕ → Shown) → List Text → Document → List ℕ
html_bytes rules shown anchors document = flat_map (written_bytes shown) (output_of rules anchors document)
