-- How dot segments are removed from a path (RFC 3986, section 5.2.4), segment by segment.
use Rattle.std.specs.Prelude.{ℕ, List, [], ◌∷◌, ◌++◌, Bool, false, ◌||◌, ◌==◌, codes, if◌then◌else◌}
use Rattle.std.specs.Cmp.Lexicographic.{pointwise}

abbrev pub is_dot : List ℕ → Bool
is_dot segment = pointwise ◌==◌ segment (codes ".")

abbrev pub is_two_dots : List ℕ → Bool
is_two_dots segment = pointwise ◌==◌ segment (codes "..")

-- a dot segment (section 3.3)
abbrev pub is_dots : List ℕ → Bool
is_dots segment = is_dot segment || is_two_dots segment

-- all segments but the last
abbrev pub but_last : List (List ℕ) → List (List ℕ)
but_last [] = []
but_last (s ∷ []) = []
but_last (s ∷ t ∷ rest) = s ∷ but_last (t ∷ rest)

-- the output without its last segment and the `/` before it. Of a first segment, which has none, the place stays, since
-- the `/` behind it does (step 2C)
abbrev pub back : List (List ℕ) → List (List ℕ)
back [] = []
back (s ∷ []) = [] ∷ []
back (s ∷ t ∷ rest) = s ∷ but_last (t ∷ rest)

-- the output after one segment more: `.` goes (steps 2A, 2B), `..` takes one back (2A, 2C), any other is put out (2E). Dot segments
-- in front of any other go with their `/` (2A)
abbrev pub put_out : List (List ℕ) → List ℕ → List (List ℕ)
put_out out segment =
    if is_dot segment then out else (if is_two_dots segment then back out else out ++ segment ∷ [])

unfoldable pub put_all : List (List ℕ) → List (List ℕ) → List (List ℕ)
put_all out [] = out
put_all out (segment ∷ rest) = put_all (put_out out segment) rest

-- the last segment is a dot segment
abbrev pub ends_in_dots : List (List ℕ) → Bool
ends_in_dots [] = false
ends_in_dots (s ∷ []) = is_dots s
ends_in_dots (s ∷ t ∷ rest) = ends_in_dots (t ∷ rest)

-- the path without its dot segments. Where the last one goes, its `/` stays (steps 2B, 2C)
unfoldable pub without_dots : List (List ℕ) → List (List ℕ)
without_dots path = put_all [] path ++ (if ends_in_dots path then [] ∷ [] else [])
