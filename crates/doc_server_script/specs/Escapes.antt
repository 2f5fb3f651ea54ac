-- Escaped texts: bytes as a line of printable ASCII has them, and what such a line stands for. All of this is this project's choice.
use Rattle.std.specs.Prelude.{ℕ, ◌+◌, ◌*◌, ◌/◌, ◌%◌, List, [], ◌∷◌, ◌++◌, Bool, true, false, ◌&&◌, ◌==◌, nat_le, nat_lt, codes, Option, Some}
use Rattle.std.specs.Prelude.{None, if◌then◌else◌}
use Rattle.std.specs.Char.{is_ascii_hexdigit, digit_value}
use Rattle.std.specs.List.{flat_map}

abbrev pub is_byte : ℕ → Bool
is_byte b = nat_lt b 256

-- ---- reading

-- the byte that a letter behind a backslash stands for
abbrev pub letter : ℕ → Option ℕ
letter b =
    if b == 114 then Some 13  -- `\r`
    else (if b == 110 then Some 10  -- `\n`
    else (if b == 92 then Some 92 else None))  -- `\\`

-- the byte of two hexadecimal digits, of either case
abbrev pub hex_byte : ℕ → ℕ → Option ℕ
hex_byte high low =
    if is_ascii_hexdigit high && is_ascii_hexdigit low then Some (digit_value high * 16 + digit_value low) else None

-- a byte in front of others, where there are both
abbrev pub in_front : Option ℕ → Option (List ℕ) → Option (List ℕ)
in_front None rest = None
in_front (Some b) None = None
in_front (Some b) (Some rest) = Some (b ∷ rest)

-- The bytes that an escaped text stands for. `\r`, `\n`, `\\` and `\x` with two hexadecimal digits are one byte each, and each
-- other byte is itself. Any other use of a backslash stands for nothing.
unfoldable mutual
  pub unescaped : List ℕ → Option (List ℕ)
  unescaped [] = Some []
  unescaped (b ∷ rest) = elim (b == 92) [ true ↦ behind_backslash rest | false ↦ in_front (Some b) (unescaped rest) ]

  pub behind_backslash : List ℕ → Option (List ℕ)
  behind_backslash [] = None
  behind_backslash (b ∷ rest) = elim (b == 120) [ true ↦ behind_x rest | false ↦ in_front (letter b) (unescaped rest) ]

  pub behind_x : List ℕ → Option (List ℕ)
  behind_x [] = None
  behind_x (high ∷ rest) = behind_digit high rest

  pub behind_digit : ℕ → List ℕ → Option (List ℕ)
  behind_digit high [] = None
  behind_digit high (low ∷ rest) = in_front (hex_byte high low) (unescaped rest)

-- ---- writing

-- a lower case hexadecimal digit
abbrev pub hex_digit : ℕ → ℕ
hex_digit n = if nat_lt n 10 then 48 + n else 87 + n

-- a byte by its number
abbrev pub by_number : ℕ → List ℕ
by_number b = codes "\\x" ++ hex_digit (b / 16) ∷ hex_digit (b % 16) ∷ []

-- a byte of printable ASCII
abbrev pub is_printable : ℕ → Bool
is_printable b = nat_le 32 b && nat_le b 126

-- a byte, escaped where it isn't printable or is a backslash
abbrev pub escaped_byte : ℕ → List ℕ
escaped_byte b =
    if b == 13 then codes "\\r"
    else (if b == 10 then codes "\\n"
    else (if b == 92 then codes "\\\\"
    else (if is_printable b then b ∷ [] else by_number b)))

-- bytes, each written so
unfoldable pub escaped : List ℕ → List ℕ
escaped bytes = flat_map escaped_byte bytes

-- a byte of a field that ends at a space
abbrev pub spaceless_byte : ℕ → List ℕ
spaceless_byte b = if b == 32 then codes "\\x20" else escaped_byte b

-- bytes, escaped so that no space stands in them
unfoldable pub spaceless : List ℕ → List ℕ
spaceless bytes = flat_map spaceless_byte bytes
