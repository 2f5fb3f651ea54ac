use Rattle.std.proofs.Common.{◌≡◌, take}
use Rattle.doc_words_search.specs.Words.{capped}
use Rattle.doc_shelf_hits.specs.Candidates.{weighted}
use Rattle.doc_shelf_hits.proofs.scoring.score_of.Given as goal

-- the score so far
abbrev pub invariant-loop-at : goal.invariant-loop-at
invariant-loop-at l = l.score ≡ capped (weighted (take l.at l.counts) (take l.at l.rarities))
