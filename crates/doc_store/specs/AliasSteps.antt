-- Words of how aliases are kept: where each leads, and back, for each goal the aliases that lead there.
use Rattle.std.specs.Prelude.{◌≡◌, ℕ, List, [], ◌∷◌, Bool, map as mapped, Option, Some, None, if◌then◌else◌}
use Rattle.std.specs.FinMap as map
use Rattle.doc_store_readers.specs.Maps.{TextMap}
use Rattle.doc_store.specs.Store.{is_goal}

-- a set of texts
abbrev pub TextSet : Type 0
TextSet = TextMap (Unit {0})

-- the set that a look-up finds, or else the empty one
abbrev pub set_at : Option TextSet → TextSet
set_at None = map.empty
set_at (Some texts) = texts

-- the aliases of a goal
abbrev pub aliases_at : TextMap TextSet → List ℕ → TextSet
aliases_at sets goal = set_at (map.get sets goal)

-- whether an alias stands among those of a goal
abbrev pub has_alias : TextMap TextSet → List ℕ → List ℕ → Bool
has_alias sets goal alias = map.contains_key (aliases_at sets goal) alias

-- the aliases of each goal are those that lead there
pub record AreSets (goals : TextMap (List ℕ)) (sets : TextMap TextSet) : Type 0 where
  pub each : (goal alias : List ℕ) → has_alias sets goal alias ≡ is_goal goal (map.get goals alias)

-- a map with another value under a key that stands
abbrev pub with_value : {X : Type 0} → TextMap X → List ℕ → X → TextMap X
with_value values key value = if map.contains_key values key then map.insert values key value else values

-- the sets with one alias more, and with one less, of a goal
abbrev pub with_alias : TextMap TextSet → List ℕ → List ℕ → TextMap TextSet
with_alias sets goal alias = map.insert sets goal (map.insert (aliases_at sets goal) alias tt)

abbrev pub without_alias : TextMap TextSet → List ℕ → List ℕ → TextMap TextSet
without_alias sets goal alias = with_value sets goal (map.remove (aliases_at sets goal) alias)

-- as many copies of a text as there are of some
abbrev pub copies_for : List ℕ → List (List ℕ) → List (List ℕ)
copies_for text texts = mapped (λ _. text) texts

-- another value for each of these keys that stands
abbrev pub with_all : TextMap (List ℕ) → List (List ℕ) → List ℕ → TextMap (List ℕ)
with_all values [] value = values
with_all values (key ∷ keys) value = with_all (with_value values key value) keys value

-- a map without these keys
abbrev pub without_all : TextMap (List ℕ) → List (List ℕ) → TextMap (List ℕ)
without_all values [] = values
without_all values (key ∷ keys) = without_all (map.remove values key) keys
