-- Bodies by path.
use Rattle.std.specs.Prelude.{◌≡◌, ◌⊎◌, ℕ, List, [], Contains, Option, Some, None}
use Rattle.std.specs.FinMap as map
use Rattle.doc_index_tables.specs.Maps.{TextMap}
use Rattle.doc_shelf_bodies.specs.declared.body.Body.{Body}

-- the bodies of each path
abbrev pub BodyMap : Type 0
BodyMap = TextMap (List Body)

abbrev pub bodies_in : Option (List Body) → List Body
bodies_in None = []
bodies_in (Some bodies) = bodies

-- a body stands under a path
abbrev pub StandsAt : BodyMap → List ℕ → Body → Type 0
StandsAt rows path body = Contains (bodies_in (map.get rows path)) body

-- each body that stands under a path after stood there before, or is this one
abbrev pub AddsAtMost : BodyMap → List ℕ → Body → BodyMap → Type 0
AddsAtMost old path body new =
    (at : List ℕ) (one : Body) → StandsAt new at one → StandsAt old at one ⊎ ((at ≡ path) × (one ≡ body))
