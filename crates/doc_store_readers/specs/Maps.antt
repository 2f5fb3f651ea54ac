-- Finite maps by texts, in the order of their bytes.
use Rattle.std.specs.Prelude.{ℕ, ⊤, map as mapped, refl}
use Rattle.std.specs.Coded.{Coded, code_by, coded_ℕ}
use Rattle.std.specs.FinMap as map
use Rattle.std.specs.Cmp.Lexicographic.{slice_cmp}
use Rattle.std.specs.Ordering.{nat_cmp}

abbrev pub TextMap : Type 0 → Type 0
TextMap X = map.FinMap (slice_cmp nat_cmp) X

-- a map with each of its values changed so
unfoldable pub map_values : {X Y : Type 0} → (X → Y) → TextMap X → TextMap Y
map_values change values = map.from_entries (mapped (λ entry. (entry.0, change entry.1)) (map.entries values))

-- what a key of a set has
abbrev pub present_code : Coded ⊤
present_code = code_by ℕ coded_ℕ (λ _. 0) (λ _. tt) (λ _. refl)
