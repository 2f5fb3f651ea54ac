-- Where a text first has some bytes, and how long its lines are up to the first empty one.
use Rattle.std.specs.Prelude.{◌≡◌, ◌≤◌, ℕ, ◌+◌, List, [], ◌∷◌, cond, length, drop, nat_eq, Option, Some, None}
use Rattle.std.specs.List.{starts_with}
use Rattle.std.specs.Option.{option_map}

-- CR LF (RFC 9112, section 2.1)
abbrev pub line_end : List ℕ
line_end = 13 ∷ 10 ∷ []

-- the end of a line and the empty line behind it
abbrev pub blank_line : List ℕ
blank_line = 13 ∷ 10 ∷ 13 ∷ 10 ∷ []

-- a number, with so many in front
abbrev pub behind : ℕ → Option ℕ → Option ℕ
behind count found = option_map (λ place. count + place) found

-- where the text first has the needle
abbrev pub place_of : List ℕ → List ℕ → Option ℕ
place_of needle [] = None
place_of needle (b ∷ rest) = cond (starts_with nat_eq (b ∷ rest) needle) (Some 0) (behind 1 (place_of needle rest))

-- the length of the text up to and with the first CR LF CR LF
abbrev pub lines_len : List ℕ → Option ℕ
lines_len text = behind 4 (place_of blank_line text)

-- the needle does not begin in the first `searched` bytes of the text
abbrev pub IsSearched : List ℕ → ℕ → List ℕ → Type 0
IsSearched needle searched text =
    (searched ≤ length text) × (place_of needle text ≡ behind searched (place_of needle (drop searched text)))
