use Rattle.std.proofs.Common.{◌≡◌, ◌++◌, map}
use Rattle.doc_resolve.proofs.dot_segments.push_segments.Given as goal

-- the segments so far are added
abbrev pub invariant-loop-segment : goal.invariant-loop-segment
invariant-loop-segment l = map (λ s. s.now) l.out.items ≡ map (λ s. s.now) l.fn.out.items ++ map (λ s. s.now) l.yielded
