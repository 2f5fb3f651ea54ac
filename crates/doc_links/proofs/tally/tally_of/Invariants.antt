use Rattle.std.proofs.Common.{sum_by, take}
use Rattle.std.specs.Prelude.{map as mapped}
use Rattle.doc_links.specs.IndexSteps.{IsTally, written_at}
use Rattle.doc_links.proofs.tally.tally_of.Given as goal

-- the tally of the paths so far
abbrev pub invariant-loop-name : goal.invariant-loop-name
invariant-loop-name g l =
    IsTally l.pages (g.S.Sight.goals l.sight)
    (λ slot. sum_by (λ name. written_at l.pages name slot) (mapped (λ name. name.now) (take l.name-index l.names))) l.tally
