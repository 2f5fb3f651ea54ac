-- The options behind the name of `token`.
use Rattle.std.specs.Prelude.{ℕ, List, [], ◌∷◌, Bool, false, true, bytes_eq, codes, Option, Some, None, Result, Ok, Err, if◌then◌else◌}
use Rattle.doc_server_arguments.specs.Usage.{Wrong, NeedsGroups, StandsTwice, UnknownOption}

-- what options say of a reader: whether it is an owner, and the names of its groups as they are written
pub record Given : Type 0 where
  pub is_owner : Bool
  pub groups : Option (List ℕ)

-- what is given with `--owner` more
abbrev pub with_owner : List ℕ → Given → Result Given Wrong
with_owner word given = if given.is_owner then Err (StandsTwice word) else Ok (record given { is_owner = true })

-- what is given with `--groups` more, by what an earlier one gave and what stands behind it
abbrev pub groups_after : List ℕ → Given → Option (List ℕ) → Option (List ℕ) → Result Given Wrong
groups_after word given (Some before) names = Err (StandsTwice word)
groups_after word given None None = Err NeedsGroups
groups_after word given None (Some names) = Ok (record given { groups = Some names })

abbrev pub with_groups : List ℕ → Given → Option (List ℕ) → Result Given Wrong
with_groups word given names = groups_after word given given.groups names

-- what a function gives of what is given
abbrev pub onward : (Given → Result Given Wrong) → Result Given Wrong → Result Given Wrong
onward next (Ok given) = next given
onward next (Err wrong) = Err wrong

-- what these words give beside what is given. What stands behind `--groups` is names, whatever it looks like
abbrev pub given_by : Given → List (List ℕ) → Result Given Wrong
given_by given [] = Ok given
given_by given (word ∷ []) =
    if bytes_eq word (codes "--owner") then with_owner word given
    else (if bytes_eq word (codes "--groups") then with_groups word given None else Err (UnknownOption word))
given_by given (word ∷ next ∷ rest) =
    if bytes_eq word (codes "--owner") then onward (λ more. given_by more (next ∷ rest)) (with_owner word given)
    else (if bytes_eq word (codes "--groups") then onward (λ more. given_by more rest) (with_groups word given (Some next))
    else Err (UnknownOption word))

-- what these words give
abbrev pub given_in : List (List ℕ) → Result Given Wrong
given_in words = given_by (record { is_owner = false; groups = None }) words
