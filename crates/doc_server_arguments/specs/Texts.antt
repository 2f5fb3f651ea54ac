-- Words as the code has them.
use Rattle.std.specs.Prelude.{ℕ, List, map, String, string_bytes}

-- the bytes of each word
abbrev pub texts : {A : Type 0} → List (String A) → List (List ℕ)
texts words = map string_bytes words
