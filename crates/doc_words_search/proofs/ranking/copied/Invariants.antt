use Rattle.std.proofs.Common.{◌≡◌, take}
use Rattle.std.specs.Prelude.{map as mapped}
use Rattle.doc_words_search.specs.SearchSteps.{hit_placed}
use Rattle.doc_words_search.proofs.ranking.copied.Given as goal

-- the hits so far
abbrev pub invariant-loop-one : goal.invariant-loop-one
invariant-loop-one l = l.hits.items ≡ mapped (hit_placed l.pages l.seen) (take l.one-index l.found)
