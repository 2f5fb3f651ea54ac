use Rattle.std.proofs.Common.{◌≡◌, take}
use Rattle.doc_words_search.specs.Words.{capped}
use Rattle.doc_shelf_hits.specs.Candidates.{met_of}
use Rattle.doc_shelf_hits.proofs.counting.count_of.Given as goal

-- the words so far
abbrev pub invariant-loop-at : goal.invariant-loop-at
invariant-loop-at l = l.met ≡ capped (met_of l.term (take l.at l.words))
