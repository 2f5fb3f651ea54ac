use Rattle.std.proofs.Common.{◌≡◌, length}
use Rattle.doc_server_rounds.specs.Made.{Makes}
use Rattle.doc_server_rounds.proofs.accepting.accept_links.Given as goal

abbrev pub invariant-peers : goal.invariant-peers
invariant-peers g l = record {
  made : Makes (g.R.Renderer.page l.fn.hub.0) l.fn.hub.1 l.links.items l.hub.1;
  long : length l.links.items ≡ l.counter;
  same : g.R.Renderer.page l.hub.0 ≡ g.R.Renderer.page l.fn.hub.0;
}
