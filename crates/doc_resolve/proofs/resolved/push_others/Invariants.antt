use Rattle.std.proofs.Common.{◌≡◌, ◌++◌, ◌∷◌, take, map, string_bytes}
use Rattle.std.specs.List.{flat_map}
use Rattle.doc_resolve.proofs.resolved.push_others.Given as goal

-- the segments so far are written
abbrev pub invariant-loop-segment : goal.invariant-loop-segment
invariant-loop-segment l = string_bytes l.out ≡ string_bytes l.fn.out
    ++ flat_map (λ s. 47 ∷ s) (map (λ s. s.now) (take l.segment-index l.segments))
