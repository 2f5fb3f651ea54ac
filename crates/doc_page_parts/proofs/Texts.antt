-- Texts: when bytes are the same, and the characters that they encode.
use Rattle.std.proofs.Common.{◌≡◌, ℕ, ◌+◌, ◌/◌, ◌%◌, ◌<◌, ◌≤◌, true, List, [], ◌∷◌, ◌++◌, length, refl, ap, sym, ◌∙◌, arith}
use Rattle.std.proofs.Common.{append-nil, bytes_eq, chars, le-ltb, lt-ltb}
use Rattle.std.specs.Char.{encode_utf8, IsScalar}
use Rattle.std.specs.Str.{IsUtf8, encode_utf8_all}
use Rattle.std.proofs.lemmas.Slice.Eq.{bytes_eq-Decides}
use Rattle.std.proofs.lemmas.Str.{chars-append, chars-nil, chars_past_char, encodes-chars, IsUtf8-encode}

-- bytes that the test takes for the same are
pub bytes_eq_true : (xs ys : List ℕ) → bytes_eq xs ys ≡ true → xs ≡ ys
bytes_eq_true xs ys e = (bytes_eq-Decides xs ys).0 e

-- bytes are the same as themselves
pub bytes_eq_itself : (xs : List ℕ) → bytes_eq xs xs ≡ true
bytes_eq_itself xs = (bytes_eq-Decides xs xs).1 refl

-- texts with the same characters are the same bytes
pub chars_injective : (xs ys : List ℕ) → IsUtf8 xs → IsUtf8 ys → chars xs ≡ chars ys → xs ≡ ys
chars_injective xs ys u v e = sym (encodes-chars xs u) ∙ ap encode_utf8_all e ∙ encodes-chars ys v

-- a text with bytes has characters
pub chars_not_empty : (xs : List ℕ) → IsUtf8 xs → 0 < length xs → 0 < length (chars xs)
chars_not_empty xs u some = at (chars xs) (encodes-chars xs u)
  where
    at : (cs : List ℕ) → encode_utf8_all cs ≡ xs → 0 < length cs
    at [] e = let none : 0 ≡ length xs = ap length e in absurd (omega arith)
    at (c ∷ cs) e = omega arith

-- the bytes of one character are that character
pub chars_encode : (c : ℕ) → IsScalar c → chars (encode_utf8 c) ≡ c ∷ []
chars_encode c s = chars_past_char (encode_utf8 c) [] c (IsUtf8-encode c s) (sym (append-nil (encode_utf8 c)))
    ∙ ap (λ more. c ∷ more) chars-nil

-- a text with the bytes of one character behind it
pub chars_append_encode : (xs : List ℕ) (c : ℕ) → IsUtf8 xs → IsScalar c → chars (xs ++ encode_utf8 c) ≡ chars xs ++ (c ∷ [])
chars_append_encode xs c u s = chars-append xs (encode_utf8 c) u ∙ ap (λ more. chars xs ++ more) (chars_encode c s)

-- a character of two bytes, of three and of four; one of one byte is the library's `encode_ascii`
pub encode_two_bytes : (c : ℕ) → 128 ≤ c → c < 2048 → encode_utf8 c ≡ (192 + c / 64) ∷ (128 + c % 64) ∷ []
unfolding encode_utf8
encode_two_bytes c l h = rw (le-ltb c 128 l, lt-ltb c 2048 h)

pub encode_three_bytes : (c : ℕ) → 2048 ≤ c → c < 65536
    → encode_utf8 c ≡ (224 + c / 4096) ∷ (128 + (c / 64) % 64) ∷ (128 + c % 64) ∷ []
unfolding encode_utf8
encode_three_bytes c l h = rw (le-ltb c 128 (omega arith), le-ltb c 2048 l, lt-ltb c 65536 h)

pub encode_four_bytes : (c : ℕ) → 65536 ≤ c
    → encode_utf8 c ≡ (240 + c / 262144) ∷ (128 + (c / 4096) % 64) ∷ (128 + (c / 64) % 64) ∷ (128 + c % 64) ∷ []
unfolding encode_utf8
encode_four_bytes c l = rw (le-ltb c 128 (omega arith), le-ltb c 2048 (omega arith), le-ltb c 65536 l)
