-- Names of readers.
use Rattle.std.specs.Prelude.{ℕ, List, Bool, not, ◌&&◌, ◌||◌, ◌==◌, codes, length, nat_le}
use Rattle.std.specs.Char.{is_ascii_digit, is_ascii_lowercase}
use Rattle.std.specs.List.{list_all, list_any}

-- a byte of a name: a-z, 0-9, `-`, `_`, `.` and `@`
abbrev pub is_name_byte : ℕ → Bool
is_name_byte b = is_ascii_lowercase b || is_ascii_digit b || list_any (λ c. c == b) (codes "-_.@")

-- 1 to 32 of them
unfoldable pub is_name : List ℕ → Bool
is_name text = not (length text == 0) && (nat_le (length text) 32 && list_all is_name_byte text)
