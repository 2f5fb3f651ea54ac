-- The keys of a TOML table.
use Rattle.std.specs.Prelude.{ℕ, List, [], ◌∷◌, Bool, bytes_eq}
use Rattle.std.specs.List.{list_all, list_any}
use Rattle.toml.specs.Data.{Members, no_members, member}

-- the keys of a table
abbrev pub keys_in : Members → List (List ℕ)
keys_in no_members = []
keys_in (member key value rest) = key ∷ keys_in rest

abbrev pub is_one_of : List (List ℕ) → List ℕ → Bool
is_one_of keys key = list_any (bytes_eq key) keys

-- whether a table has none but these keys
abbrev pub has_only : List (List ℕ) → Members → Bool
has_only keys table = list_all (is_one_of keys) (keys_in table)
