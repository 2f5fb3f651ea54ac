use Rattle.std.proofs.Common.{◌≡◌, ◌≤◌, count_by, is_some, take}
use Rattle.doc_words_search.specs.SearchSteps.{count_at}
use Rattle.doc_words_search.proofs.weighing.holders.Given as goal

-- the count so far
abbrev pub invariant-loop-slot : goal.invariant-loop-slot
invariant-loop-slot l = record {
  count : l.count ≡ count_by (λ slot. is_some (count_at l.postings slot)) (take l.slot-index l.seen);
  within : l.count ≤ l.slot-index;
}
