-- The names of a page: the paths that lead to it.
use Rattle.std.specs.Prelude.{◌≡◌, ℕ, List, [], ◌∷◌, Bool, ◌||◌, bytes_eq, map as mapped, Option, if◌then◌else◌}
use Rattle.std.specs.FinMap as map
use Rattle.std.specs.List.{IsDistinct, filter, list_any}
use Rattle.doc_store_readers.specs.Maps.{TextMap}
use Rattle.doc_store_readers.specs.Sites.{Site}
use Rattle.doc_store.specs.Store.{is_goal}

-- the aliases that lead to a path, in the order of their bytes
abbrev pub aliases_of : TextMap (List ℕ) → List ℕ → List (List ℕ)
aliases_of aliases path = mapped (λ entry. entry.0) (filter (λ entry. bytes_eq entry.1 path) (map.entries aliases))

-- the names of the page of a path: the path itself, then its aliases; where no page stands there is none
abbrev pub names_of : Site → List ℕ → List (List ℕ)
names_of site path = if map.contains_key site.pages path then path ∷ aliases_of site.aliases path else []

-- whether a path is the name of some page: a page stands under it, or it is an alias
abbrev pub is_name : Site → List ℕ → Bool
is_name site path = map.contains_key site.pages path || map.contains_key site.aliases path

-- these are the paths that lead to a path, each once
pub record AreNames (names : List (List ℕ)) (goals : List ℕ → Option (List ℕ)) (path : List ℕ) : Type 0 where
  pub all : (name : List ℕ) → list_any (bytes_eq name) names ≡ is_goal path (goals name)
  pub once : IsDistinct bytes_eq names
