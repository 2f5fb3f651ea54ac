use Rattle.std.proofs.Common.{◌≡◌, take}
use Rattle.doc_words_search.specs.SearchSteps.{scored_among}
use Rattle.doc_words_search.proofs.ranking.scored_among.Given as goal

-- what was found so far
abbrev pub invariant-loop-place : goal.invariant-loop-place
invariant-loop-place l = l.found.items ≡ scored_among l.words (take l.place l.seen)
