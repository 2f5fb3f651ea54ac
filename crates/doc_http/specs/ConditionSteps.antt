-- How the values of a name are joined one by one; words of private clauses and proofs.
use Rattle.std.specs.Prelude.{ℕ, List, ◌++◌, Option, Some, None, codes}
use Rattle.std.specs.List.{flat_map}
use Rattle.doc_http.specs.Conditions.{joined_values}

-- a value behind what is joined
abbrev pub with_value : Option (List ℕ) → List ℕ → List ℕ
with_value None value = value
with_value (Some before) value = before ++ codes ", " ++ value

-- all of these values behind what is joined
abbrev pub with_values : Option (List ℕ) → List (List ℕ) → Option (List ℕ)
with_values None values = joined_values values
with_values (Some before) values = Some (before ++ flat_map (λ value. codes ", " ++ value) values)
