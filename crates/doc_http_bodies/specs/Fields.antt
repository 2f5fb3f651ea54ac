-- Fields by name.
use Rattle.std.specs.Prelude.{ℕ, Bool, List, map, filter}
use Rattle.std.specs.Str.{str_eq_ignore_ascii_case}

-- the names of fields, each with its value (RFC 9112, section 5)
abbrev pub Fields : Type 0
Fields = List (List ℕ × List ℕ)

-- whether a field has this name, which is compared without case (RFC 9110, section 5.1)
abbrev pub is_named : List ℕ → List ℕ × List ℕ → Bool
is_named name field = str_eq_ignore_ascii_case field.0 name

-- the values of the fields of a name
abbrev pub values_named : List ℕ → Fields → List (List ℕ)
values_named name fields = map (λ field. field.1) (filter (is_named name) fields)
