-- What is shown of what stands before a place and from it on.
use Rattle.std.specs.Prelude.{ℕ, List, ◌++◌, length, take, filter, Bool, not, ◌||◌, nat_lt}
use Rattle.doc_people.specs.Limits.{after_limit, before_limit}
use Rattle.doc_people.specs.Navigation.{is_before, last_ones}

-- what comes before a place
abbrev pub keys_before : List ℕ → List (List ℕ) → List (List ℕ)
keys_before place keys = filter (λ key. is_before key place) keys

-- and what doesn't
abbrev pub keys_from : List ℕ → List (List ℕ) → List (List ℕ)
keys_from place keys = filter (λ key. not (is_before key place)) keys

-- what is shown of the two
abbrev pub shown_of : List (List ℕ) → List (List ℕ) → List (List ℕ)
shown_of before from = last_ones before_limit before ++ take after_limit from

-- there is more of one of them
abbrev pub is_more : List (List ℕ) → List (List ℕ) → Bool
is_more before from = nat_lt before_limit (length before) || nat_lt after_limit (length from)
