-- Which bytes HTML writes otherwise.
use Rattle.std.specs.Prelude.{ℕ, Bool, not, ◌==◌, ◌||◌, ◌&&◌}
use Rattle.doc_page_encoding.specs.Encoding.{is_kept}

-- as a reference
abbrev pub is_escaped : ℕ → Bool
is_escaped b = (b == 38) || ((b == 60) || ((b == 62) || (b == 34)))

-- a byte of a destination, as it is
abbrev pub stays : ℕ → Bool
stays b = not (b == 38) && is_kept b
