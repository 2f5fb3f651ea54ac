-- How many rows an array has.
use Rattle.std.proofs.Common.{◌≡◌, List, [], ◌∷◌, length, refl, arith}
use Rattle.toml.specs.View.{items_view}
use Rattle.toml.specs.declared.value.Value.{Value}
use Rattle.doc_server_lint_faults.specs.RowPlaces.{count_items}

pub count_view : (vs : List Value) → count_items (items_view vs) ≡ length vs
count_view [] = refl
count_view (v ∷ vs) = omega (arith, count_view vs)
