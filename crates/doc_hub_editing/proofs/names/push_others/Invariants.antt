use Rattle.std.proofs.Common.{◌≡◌, ◌++◌, ◌∷◌, take}
use Rattle.std.specs.Prelude.{string_bytes}
use Rattle.std.specs.List.{flat_map}
use Rattle.doc_hub_editing.proofs.names.push_others.Given as goal

-- the names so far stand, each behind a comma
abbrev pub invariant-loop-name : goal.invariant-loop-name
invariant-loop-name l =
    string_bytes l.out ≡ string_bytes l.fn.out ++ flat_map (λ name. 44 ∷ name) (take l.name-index l.names)
