-- An index in which each page is held under the same stamp, so that no path is held under two.
use Rattle.std.specs.Prelude.{◌≡◌, ℕ, List, IsTrue}
use Rattle.std.specs.FinMap as map
use Rattle.doc_index_tables.specs.Maps.{PairMap}

-- each page is held under this stamp
abbrev pub HasStamp : {X : Type 0} → ℕ → PairMap X → Type 0
HasStamp n held = (path : List ℕ) (stamp : ℕ) → IsTrue (map.contains_key held (path, stamp)) → stamp ≡ n
