use Rattle.std.proofs.Common.{◌≡◌, take}
use Rattle.std.specs.Prelude.{count_by}
use Rattle.doc_links.specs.IndexSteps.{goes_to}
use Rattle.doc_links.proofs.sources.count_to.Given as goal

-- the links so far
abbrev pub invariant-loop-link : goal.invariant-loop-link
invariant-loop-link g l = l.count ≡ count_by (goes_to (g.S.Sight.goals l.sight) l.target) (take l.link-index l.links)
