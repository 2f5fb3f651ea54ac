-- Texts with numbers, one after another in one text with their ends.
use Rattle.std.specs.Prelude.{◌≡◌, ◌≤◌, ◌-◌, ℕ, zero, suc, List, [], ◌∷◌, length, take, drop}
use Rattle.std.specs.Str.{IsCharBoundary}

-- the bytes from a place to another
abbrev pub between : List ℕ → ℕ → ℕ → List ℕ
between bytes start end = take (end - start) (drop start bytes)

-- the texts from a start on, each to its end
abbrev pub unpacked : List ℕ → ℕ → List (ℕ × ℕ) → List (List ℕ × ℕ)
unpacked bytes start [] = []
unpacked bytes start (e ∷ ends) = (between bytes start e.0, e.1) ∷ unpacked bytes e.0 ends

-- where the text of a place begins
abbrev pub start_of : ℕ → List (ℕ × ℕ) → ℕ → ℕ
start_of start ends zero = start
start_of start [] (suc i) = start
start_of start (e ∷ ends) (suc i) = start_of e.0 ends i

-- no end lies before another, each lies between two characters, and the last is that of the text
abbrev pub IsPacked : List ℕ → ℕ → List (ℕ × ℕ) → Type 0
IsPacked bytes start [] = start ≡ length bytes
IsPacked bytes start (e ∷ ends) = (start ≤ e.0) × IsCharBoundary bytes e.0 × IsPacked bytes e.0 ends
