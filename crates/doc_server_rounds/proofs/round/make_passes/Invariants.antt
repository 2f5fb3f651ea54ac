use Rattle.std.proofs.Common.{◌≡◌, ◌≤◌, ◌-◌}
use Rattle.doc_server_rounds.specs.Rounds.{ServesAll}
use Rattle.doc_server_rounds.proofs.round.make_passes.Given as goal

abbrev pub invariant-passes : goal.invariant-passes
invariant-passes g l = record {
  serves : ServesAll (g.R.Renderer.page l.fn.hub.0) l.fn.hub.1 l.fn.links l.hub.1 l.links;
  same : g.R.Renderer.page l.hub.0 ≡ g.R.Renderer.page l.fn.hub.0;
  turns : l.passes ≤ l.turns;
}

abbrev pub decreases-passes : goal.decreases-passes
decreases-passes g l = l.turns - l.passes
