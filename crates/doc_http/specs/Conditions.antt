-- The conditions of a request, as its head sends them.
use Rattle.std.specs.Prelude.{ℕ, List, [], ◌∷◌, ◌++◌, Option, Some, None, codes}
use Rattle.std.specs.List.{flat_map}

-- the values of the fields of a name, in their order, joined by a comma and a space (RFC 9110, section 5.3); none where there is no such
-- field
unfoldable pub joined_values : List (List ℕ) → Option (List ℕ)
joined_values [] = None
joined_values (first ∷ others) = Some (first ++ flat_map (λ value. codes ", " ++ value) others)
