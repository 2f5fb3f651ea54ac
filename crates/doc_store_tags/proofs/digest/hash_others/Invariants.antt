use Rattle.std.proofs.Common.{◌++◌, ◌∷◌, ℕ, List, take}
use Rattle.std.specs.List.{flat_map}
use Rattle.sha2.specs.Hashers.{Holds256}
use Rattle.doc_store_tags.proofs.digest.hash_others.Given as goal

-- the names so far stand, each behind a comma, behind what the hasher held
abbrev pub invariant-loop-name : goal.invariant-loop-name
invariant-loop-name l =
    (before : List ℕ) → Holds256 l.fn.hasher before → Holds256 l.hasher (before ++ flat_map (λ name. 44 ∷ name) (take l.name-index l.names))
