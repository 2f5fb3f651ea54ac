use Rattle.std.proofs.Common.{◌≡◌, true}
use Rattle.doc_server_rounds.specs.Served.{Serves, unread_len}
use Rattle.doc_server_rounds.proofs.link.Link.answer.Given as goal

abbrev pub invariant-steps : goal.invariant-steps
invariant-steps g l = record {
  serves : Serves (g.R.Renderer.page l.fn.hub.0) l.fn.hub.1 l.fn.self l.hub.1 l.self;
  opened : l.self.is_open ≡ true;
  same : g.R.Renderer.page l.hub.0 ≡ g.R.Renderer.page l.fn.hub.0;
}

abbrev pub decreases-steps : goal.decreases-steps
decreases-steps g l = unread_len l.hub.1 l.self.id
