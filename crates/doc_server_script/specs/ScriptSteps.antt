-- Words in which the reading of a script is stated.
use Rattle.std.specs.Prelude.{ℕ, ◌==◌, List, length, Bool, nat_lt, Option, Some, None, if◌then◌else◌}
use Rattle.std.specs.List.{position_or_len, before_first, after_first}

abbrev pub is_lf : ℕ → Bool
is_lf b = b == 10

-- what stands before the first LF, and all that follows it
abbrev pub cut : List ℕ → Option (List ℕ × List ℕ)
cut text =
    if nat_lt (position_or_len is_lf text) (length text) then Some (before_first is_lf text, after_first is_lf text)
    else None
