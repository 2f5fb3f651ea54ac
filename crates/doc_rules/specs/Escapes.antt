-- Backslash escapes and character references (CommonMark 0.31.2, sections 2.4 and 2.5).
use Rattle.std.specs.Prelude.{ℕ, zero, suc, ◌+◌, ◌*◌, ◌-◌, nat_lt, nat_le, true, false, ◌&&◌, ◌||◌, ◌==◌, bytes_eq, [], ◌∷◌, ◌++◌, drop}
use Rattle.std.specs.Prelude.{take, length, fold, Option, Some, None, option_map, codes}
use Rattle.std.specs.Char.{is_ascii_punctuation, is_ascii_digit, is_ascii_hexdigit, is_ascii_alphanumeric, digit_value}
use Rattle.doc_rules.specs.Characters.{Text, one_of}
use Rattle.doc_rules.specs.Parsers.{Parser, one, is, ◌then◌, some, at_most, before, inside}
use Rattle.doc_rules.specs.Entities.{Table}
use Rattle.doc_rules.specs.Rules.{Rules}

-- what stands at the front of a text means these characters, and takes so many characters behind its first
abbrev pub Meaning : Type 0
Meaning = Text × ℕ

-- ---- character references, behind their '&'

-- '#', 1 to 7 digits, ';'
unfoldable pub decimal_reference : Parser
decimal_reference = is 35 then one is_ascii_digit then at_most 6 (one is_ascii_digit) then is 59

-- '#x' or '#X', 1 to 6 hexadecimal digits, ';'
unfoldable pub hexadecimal_reference : Parser
hexadecimal_reference = is 35 then one (one_of (codes "xX")) then one is_ascii_hexdigit then at_most 5 (one is_ascii_hexdigit) then is 59

-- letters and digits, ';'
unfoldable pub named_reference : Parser
named_reference = some is_ascii_alphanumeric then is 59

-- the number that these digits write
unfoldable pub number : ℕ → Text → ℕ
number radix = fold (λ n c. n * radix + digit_value c) 0

-- the character with this code point, U+FFFD for zero and for what is no scalar value
unfoldable pub code_point : ℕ → Text
code_point n = elim (nat_lt 0 n && (nat_lt n 0xD800 || (nat_le 0xE000 n && nat_lt n 0x110000))) [ true ↦ n ∷ [] | false ↦ 0xFFFD ∷ [] ]

-- the characters of the first entity with this name
unfoldable pub find_entity : Table → Text → Option Text
find_entity [] name = None
find_entity (entity ∷ more) name = elim (bytes_eq entity.0 name) [ true ↦ Some entity.1 | false ↦ find_entity more name ]

-- the reference by name at the front of a text; a name in no table is text (2.5)
unfoldable pub by_name : Rules → Text → Option Meaning
by_name rules rest =
    elim (named_reference rest) [
      | None ↦ None
      | Some after ↦ option_map (λ those. (those, length rest - length after))
          (find_entity rules.names (take (length rest - length after - 1) rest))
    ]

-- the reference at the front of a text behind its '&'
unfoldable pub character_reference : Rules → Text → Option Meaning
character_reference rules rest =
    elim (decimal_reference rest) [
      | Some after ↦ Some (code_point (number 10 (inside (before after rest))), length rest - length after)
      | None ↦ elim (hexadecimal_reference rest) [
        | Some after ↦ Some (code_point (number 16 (drop 1 (inside (before after rest)))), length rest - length after)
        | None ↦ by_name rules rest
      ]
    ]

-- ---- backslash escapes, behind their '\'

-- the character that is escaped: ASCII punctuation (2.4)
unfoldable pub backslash_escape : Text → Option Meaning
backslash_escape [] = None
backslash_escape (c ∷ rest) = elim (is_ascii_punctuation c) [ true ↦ Some (c ∷ [], 1) | false ↦ None ]

-- ---- whole texts

-- the escape or the reference that this character begins before this rest
unfoldable pub escape_or_reference : Rules → ℕ → Text → Option Meaning
escape_or_reference rules c rest = elim (c == 92) [
  | true ↦ backslash_escape rest
  | false ↦ elim (c == 38)
      [ true ↦ character_reference rules rest | false ↦ None ]
]

-- what this character before this rest means: itself, where it begins neither
unfoldable pub meaning : Rules → ℕ → Text → Meaning
meaning rules c rest = elim (escape_or_reference rules c rest) [ Some those ↦ those | None ↦ (c ∷ [], 0) ]

-- a text with its escapes and references read; its first n characters are read already
unfoldable pub unescape_behind : Rules → ℕ → Text → Text
unescape_behind rules n [] = []
unescape_behind rules (suc n) (c ∷ rest) = unescape_behind rules n rest
unescape_behind rules zero (c ∷ rest) = (meaning rules c rest).0 ++ unescape_behind rules (meaning rules c rest).1 rest

-- a text with its escapes and references read
unfoldable pub unescape : Rules → Text → Text
unescape rules = unescape_behind rules 0
