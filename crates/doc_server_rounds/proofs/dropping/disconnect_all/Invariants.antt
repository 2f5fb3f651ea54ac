use Rattle.std.proofs.Common.{◌≡◌, drop}
use Rattle.doc_server_rounds.specs.Rounds.{ids_of}
use Rattle.doc_server_rounds.specs.Dropped.{dropped_all}
use Rattle.doc_server_rounds.proofs.dropping.disconnect_all.Given as goal

abbrev pub invariant-links : goal.invariant-links
invariant-links g l = record {
  rest : dropped_all l.hub.1 (ids_of (drop l.link-index l.links)) ≡ dropped_all l.fn.hub.1 (ids_of l.links);
  same : g.R.Renderer.page l.hub.0 ≡ g.R.Renderer.page l.fn.hub.0;
}
