use Rattle.std.proofs.Common.{◌≡◌, take}
use Rattle.std.specs.Prelude.{map as mapped}
use Rattle.doc_words_search.specs.Words.{capped}
use Rattle.doc_shelf_hits.specs.Candidates.{met_of}
use Rattle.doc_shelf_hits.proofs.counting.counts_of.Given as goal

-- the terms so far
abbrev pub invariant-loop-term : goal.invariant-loop-term
invariant-loop-term l = l.counts.items ≡ mapped (λ term. capped (met_of term l.words)) (take l.term-index l.terms)
