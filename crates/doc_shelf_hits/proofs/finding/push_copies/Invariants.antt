use Rattle.std.proofs.Common.{◌≡◌, ◌++◌, take}
use Rattle.std.specs.Prelude.{map as mapped}
use Rattle.doc_words_search.specs.SearchSteps.{hit_of}
use Rattle.doc_shelf_hits.proofs.finding.push_copies.Given as goal

-- the hits so far
abbrev pub invariant-loop-one : goal.invariant-loop-one
invariant-loop-one l = l.hits.items ≡ l.fn.hits.items ++ mapped hit_of (take l.one-index l.found)
