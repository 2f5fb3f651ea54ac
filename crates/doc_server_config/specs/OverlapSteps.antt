-- The steps of finding overlaps.
use Rattle.std.specs.Prelude.{◌≡◌, ℕ, List, Bool, false, not, Option, Some, None, if◌then◌else◌}
use Rattle.std.specs.FinMap as map
use Rattle.doc_store_readers.specs.Maps.{TextMap}
use Rattle.doc_server_config.specs.declared.readme.Move.{Move}
use Rattle.doc_server_config.specs.Overlaps.{is_among, is_twice}

-- what is kept of a path: whether it is among some more than once; nothing where it isn't among them
abbrev pub mark_of : List (List ℕ) → List ℕ → Option Bool
mark_of paths path = if is_among paths path then Some (is_twice paths path) else None

-- the marks of some paths
abbrev pub AreMarks : List (List ℕ) → TextMap Bool → Type 0
AreMarks paths marks = (path : List ℕ) → map.get marks path ≡ mark_of paths path

abbrev pub is_again : Option Bool → Bool
is_again None = false
is_again (Some again) = again

-- whether no path that is marked is the goal of a move
abbrev pub is_free_in : TextMap Bool → Move → Bool
is_free_in marks one = not (map.contains_key marks one.to)
