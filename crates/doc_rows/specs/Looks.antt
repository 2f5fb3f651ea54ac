-- Looks into lists of texts that are in order: the first one from a text on, and the last one before a text.
use Rattle.std.specs.Prelude.{ℕ, List, [], ◌∷◌, filter, Bool, not, Option, Some, None, if◌then◌else◌}
use Rattle.std.specs.Cmp.Lexicographic.{slice_cmp}
use Rattle.std.specs.List.{last_or}
use Rattle.std.specs.Ordering.{is_lt, nat_cmp}

-- one comes before the other in the order of bytes
abbrev pub is_before : List ℕ → List ℕ → Bool
is_before one other = is_lt (slice_cmp nat_cmp one other)

-- the first, where there is one
abbrev pub first_of : {X : Type 0} → List X → Option X
first_of [] = None
first_of (x ∷ xs) = Some x

-- the last, where there is one
abbrev pub last_of : {X : Type 0} → List X → Option X
last_of xs = last_or None xs

-- those that don't come before a text
abbrev pub from_text : List ℕ → List (List ℕ) → List (List ℕ)
from_text from texts = filter (λ text. not (is_before text from)) texts

-- those that come before a text
abbrev pub before_text : List ℕ → List (List ℕ) → List (List ℕ)
before_text before texts = filter (λ text. is_before text before) texts

-- the first one from a text on
abbrev pub first_from : List ℕ → List (List ℕ) → Option (List ℕ)
first_from from texts = first_of (from_text from texts)

-- the last one before a text
abbrev pub last_before : List ℕ → List (List ℕ) → Option (List ℕ)
last_before before texts = last_of (before_text before texts)

-- the one of the two that comes first, where both are there
abbrev pub lesser : Option (List ℕ) → Option (List ℕ) → Option (List ℕ)
lesser None other = other
lesser (Some one) None = Some one
lesser (Some one) (Some other) = if is_before other one then Some other else Some one

-- the one of the two that comes last, where both are there
abbrev pub greater : Option (List ℕ) → Option (List ℕ) → Option (List ℕ)
greater None other = other
greater (Some one) None = Some one
greater (Some one) (Some other) = if is_before one other then Some other else Some one
