-- Where escapes and references begin.
use Rattle.std.specs.Prelude.{ℕ, Bool, ◌==◌, ◌||◌}

-- '\' or '&'
abbrev pub begins_escape : ℕ → Bool
begins_escape b = (b == 92) || (b == 38)
