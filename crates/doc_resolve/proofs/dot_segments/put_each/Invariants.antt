use Rattle.std.proofs.Common.{◌≡◌, map, take}
use Rattle.doc_resolve.specs.DotSegments.{put_all}
use Rattle.doc_resolve.proofs.dot_segments.put_each.Given as goal

-- the segments so far are put out
abbrev pub invariant-loop-segment : goal.invariant-loop-segment
invariant-loop-segment l = map (λ s. s.now) l.out.items
    ≡ put_all (map (λ s. s.now) l.fn.out.items) (map (λ s. s.now) (take l.segment-index l.segments))
