use Rattle.std.proofs.Common.{sum_by, take}
use Rattle.std.specs.Prelude.{map as mapped}
use Rattle.doc_links.specs.IndexSteps.{written_at}
use Rattle.doc_links.proofs.WrittenSteps.{AreSummed}
use Rattle.doc_links.proofs.written.written_in.Given as goal

-- the paths so far
abbrev pub invariant-loop-name : goal.invariant-loop-name
invariant-loop-name l =
    AreSummed l.count (λ slot. sum_by (λ name. written_at l.pages name slot) (mapped (λ name. name.now) (take l.name-index l.names)))
    l.counts.items
