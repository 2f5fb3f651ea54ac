-- The identity of a journal, which tells it from each other.
use Rattle.std.specs.Prelude.{ℕ, Bool, ◌&&◌, ◌||◌, ◌==◌, List, Option, Some, None, if◌then◌else◌, length, nat_le}
use Rattle.std.specs.List.{list_all}

-- a hexadecimal digit in lower case
abbrev pub is_digit : ℕ → Bool
is_digit b = (nat_le 48 b && nat_le b 57) || (nat_le 97 b && nat_le b 102)

-- an identity is 32 of them
abbrev pub is_identity : List ℕ → Bool
is_identity text = length text == 32 && list_all is_digit text

-- the identity that a text is
abbrev pub identity_in : List ℕ → Option (List ℕ)
identity_in text = if is_identity text then Some text else None
