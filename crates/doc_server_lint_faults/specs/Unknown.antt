-- Keys that no command knows, and those that may be meant. All of this is this project's choice.
use Rattle.std.specs.Prelude.{ℕ, List, [], ◌∷◌, Bool, nat_eq, length, Option, Some, None, if◌then◌else◌}
use Rattle.std.specs.List.{filter, flat_map}
use Rattle.std.specs.Str.{chars}
use Rattle.strsim.specs.Edits.{levenshtein_row}
use Rattle.toml.specs.Data.{Data, Members, as_table}
use Rattle.doc_server_config.specs.Keys.{is_one_of, keys_in}
use Rattle.doc_server_lint_faults.specs.declared.finding.Finding.{Finding}
use Rattle.doc_server_lint_faults.specs.declared.place.Place.{Place}
use Rattle.doc_server_lint_faults.specs.declared.what.What.TheVariants.{Unknown}

-- how many characters are put in, taken out or changed between two keys (Levenshtein's distance)
abbrev pub distance : List ℕ → List ℕ → ℕ
distance key other = levenshtein_row nat_eq (chars key) (chars other) (length (chars other))

-- the known keys at this distance from a key
abbrev pub keys_at : ℕ → List (List ℕ) → List ℕ → List (List ℕ)
keys_at far known key = filter (λ other. nat_eq (distance key other) far) known

-- the one of some keys, where there is one alone
abbrev pub alone : List (List ℕ) → Option (List ℕ)
alone [] = None
alone (key ∷ []) = Some key
alone (key ∷ other ∷ more) = None

-- the one of the nearer keys, or else of the others
abbrev pub nearest : List (List ℕ) → List (List ℕ) → Option (List ℕ)
nearest [] others = alone others
nearest (key ∷ more) others = alone (key ∷ more)

-- the known key that may be meant by another one: the nearest, where it is 1 or 2 away, and no other is as near
abbrev pub meant : List (List ℕ) → List ℕ → Option (List ℕ)
meant known key = nearest (keys_at 1 known key) (keys_at 2 known key)

-- what is told of a key, where it isn't known
abbrev pub unknown_key : Bool → Place → List (List ℕ) → List ℕ → List Finding
unknown_key is_fault place known key =
    if is_one_of known key then []
    else record { place = place; key = Some key; what = Unknown (meant known key); is_fault = is_fault } ∷ []

-- what is told of the keys of a table
abbrev pub unknown_keys : Bool → Place → List (List ℕ) → Members → List Finding
unknown_keys is_fault place known table = flat_map (unknown_key is_fault place known) (keys_in table)

abbrev pub unknown_in_table : Bool → Place → List (List ℕ) → Option Members → List Finding
unknown_in_table is_fault place known None = []
unknown_in_table is_fault place known (Some table) = unknown_keys is_fault place known table

-- the same of a value that may be a table
abbrev pub unknown_in : Bool → Place → List (List ℕ) → Data → List Finding
unknown_in is_fault place known value = unknown_in_table is_fault place known (as_table value)
