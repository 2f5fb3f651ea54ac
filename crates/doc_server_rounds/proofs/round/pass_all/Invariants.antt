use Rattle.std.proofs.Common.{◌≡◌, length}
use Rattle.doc_server_rounds.specs.Rounds.{ServesAll}
use Rattle.doc_server_rounds.proofs.round.pass_all.Given as goal

abbrev pub invariant-links : goal.invariant-links
invariant-links g l = record {
  serves : ServesAll (g.R.Renderer.page l.fn.hub.0) l.fn.hub.1 l.fn.links l.hub.1 l.links;
  same : g.R.Renderer.page l.hub.0 ≡ g.R.Renderer.page l.fn.hub.0;
  long : length l.links ≡ length l.fn.links;
}
