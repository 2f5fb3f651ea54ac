-- Words for the steps by which a paragraph is put together.
use Rattle.std.specs.Prelude.{ℕ, List, ◌∷◌}
use Rattle.std.specs.List.{flat_map}

-- the lines, each after an LF
unfoldable pub lines_after : List (List ℕ) → List ℕ
lines_after lines = flat_map (λ line. 10 ∷ line) lines
