use Rattle.std.proofs.Common.{◌≡◌, length}
use Rattle.doc_words_search.proofs.PlaceSteps.{SetBut}
use Rattle.doc_words_search.proofs.weighing.set_counts.Given as goal

-- what is set so far
abbrev pub invariant-loop-slot : goal.invariant-loop-slot
invariant-loop-slot l = record {
  same : length l.counts ≡ length l.fn.counts;
  set : SetBut l.slot-iterator l.counts l.row;
}
