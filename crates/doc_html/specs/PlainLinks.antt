-- How links are shown in the examples of CommonMark 0.31.2, over bytes.
use Rattle.std.specs.Prelude.{ℕ, nat_lt, List, flat_map, encode_utf8_all, if◌then◌else◌}
use Rattle.doc_page_parts.specs.declared.linker.Shown.{Shown}
use Rattle.doc_page_parts.specs.declared.linker.Shown.TheVariants.{Href}
use Rattle.doc_rules.specs.Escaping.{percent, url_char}

-- a byte of a destination, as it is written: one below 128 is a character of ASCII, the others are percent-encoded
unfoldable pub url_byte : ℕ → List ℕ
url_byte b = if nat_lt b 128 then url_char b else percent b

-- each destination is shown as it stands, escaped
unfoldable pub plain_shown : List ℕ → Shown
plain_shown dest = Href (encode_utf8_all (flat_map url_byte dest))
