use Rattle.std.proofs.Common.{◌≡◌, ◌≤◌, count_by, take}
use Rattle.doc_shelf_hits.specs.Candidates.{is_hit, known_of}
use Rattle.doc_shelf_hits.proofs.scoring.hit_count.Given as goal

-- the count so far
abbrev pub invariant-loop-candidate : goal.invariant-loop-candidate
invariant-loop-candidate l = record {
  count : l.count ≡ count_by (λ candidate. is_hit (known_of candidate)) (take l.candidate-index l.candidates);
  within : l.count ≤ l.candidate-index;
}
