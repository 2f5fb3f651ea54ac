use Rattle.std.proofs.Common.{◌≡◌, map}
use Rattle.doc_resolve.specs.DotSegments.{put_all, ends_in_dots}
use Rattle.doc_resolve.proofs.dot_segments.put_segments.Given as goal

-- the segments so far are put out, and whether the last one is a dot segment is known
abbrev pub invariant-loop-segment : goal.invariant-loop-segment
invariant-loop-segment l =
    (map (λ s. s.now) l.out.items ≡ put_all (map (λ s. s.now) l.fn.out.items) (map (λ s. s.now) l.yielded))
    × (l.dots ≡ ends_in_dots (map (λ s. s.now) l.yielded))
