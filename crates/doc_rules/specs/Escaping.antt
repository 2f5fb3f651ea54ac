-- How characters are written in HTML (CommonMark 0.31.2, sections 2.4, 2.5 and 6.3).
use Rattle.std.specs.Prelude.{ℕ, ◌+◌, ◌/◌, ◌%◌, nat_lt, true, false, ◌||◌, ◌==◌, [], ◌∷◌, flat_map, encode_utf8, if◌then◌else◌, codes}
use Rattle.std.specs.Char.{is_ascii_alphanumeric}
use Rattle.doc_rules.specs.Characters.{Text, one_of}

-- ---- texts and attributes

-- '&', '<', '>' and '"' as references
unfoldable pub escaped_char : ℕ → Text
escaped_char c =
    elim (c == 38) [
      | true ↦ codes "&amp;"
      | false ↦ elim (c == 60) [
        | true ↦ codes "&lt;"
        | false ↦ elim (c == 62)
            [ true ↦ codes "&gt;" | false ↦ elim (c == 34) [ true ↦ codes "&quot;" | false ↦ c ∷ [] ] ]
      ]
    ]

-- each character so
unfoldable pub html_escape : Text → Text
html_escape = flat_map escaped_char

-- ---- destinations: which characters stay is this project's choice

-- a digit of base 16, in upper case
abbrev pub hex_digit : ℕ → ℕ
hex_digit n = if nat_lt n 10 then 48 + n else 55 + n

-- a byte as '%' and two digits
unfoldable pub percent : ℕ → Text
percent b = 37 ∷ hex_digit (b / 16) ∷ hex_digit (b % 16) ∷ []

-- ASCII letters and digits and these marks stay, '&' is '&amp;', each byte of another character is percent-encoded
unfoldable pub url_char : ℕ → Text
url_char c =
    elim (is_ascii_alphanumeric c || one_of (codes "-_.+!*'(),%#@?=;:/$~") c) [
      | true ↦ c ∷ []
      | false ↦ elim (c == 38) [ true ↦ codes "&amp;" | false ↦ flat_map percent (encode_utf8 c) ]
    ]

-- each character so
unfoldable pub url_escape : Text → Text
url_escape = flat_map url_char
