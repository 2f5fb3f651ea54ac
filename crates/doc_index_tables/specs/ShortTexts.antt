-- Short texts as numbers.
use Rattle.std.specs.Prelude.{ℕ, zero, suc, ◌+◌, ◌*◌, ◌/◌, ◌%◌, List, [], ◌∷◌, Bool, nat_le, if◌then◌else◌}
use Rattle.doc_index_tables.specs.TableSteps.{same_number, same_text}

-- a number with these bytes behind it, as digits at base 256
unfoldable pub number_with : ℕ → List ℕ → ℕ
number_with n [] = n
number_with n (byte ∷ bytes) = number_with (n * 256 + byte) bytes

-- the number of a text: a 1, and its bytes behind it
unfoldable pub number_of : List ℕ → ℕ
number_of text = number_with 1 text

-- the digits of a number behind its first, so many at most, and these bytes behind them
unfoldable pub digits_with : ℕ → ℕ → List ℕ → List ℕ
digits_with zero n bytes = bytes
digits_with (suc most) n bytes = if nat_le n 1 then bytes else digits_with most (n / 256) (n % 256 ∷ bytes)

-- the text of a number: 15 bytes at most
unfoldable pub text_of : ℕ → List ℕ
text_of n = digits_with 15 n []

-- whether a text is that of its number, as each one of at most 15 bytes is
unfoldable pub has_number : List ℕ → Bool
has_number text = same_text (text_of (number_of text)) text

-- whether a number is that of its text
unfoldable pub is_number : ℕ → Bool
is_number n = same_number (number_of (text_of n)) n
