-- Classes of ASCII characters.
use Rattle.std.specs.Prelude.{ℕ, Bool, ◌==◌, ◌||◌}

-- a Unicode whitespace character in ASCII
abbrev pub is_ascii_white : ℕ → Bool
is_ascii_white c = (c == 9) || ((c == 10) || ((c == 12) || ((c == 13) || (c == 32))))
