use Rattle.std.proofs.Common.{◌≡◌, take}
use Rattle.doc_resolve.specs.Decisions.{goals_of}
use Rattle.doc_resolve.proofs.goals.goals_of.Given as goal

-- the links so far
abbrev pub invariant-loop-link : goal.invariant-loop-link
invariant-loop-link g l = l.all.items ≡ goals_of (g.S.Sight.goals l.sight) (take l.link-index l.links)
