use Rattle.std.proofs.Common.{◌≡◌, drop}
use Rattle.doc_server.specs.Sites.{with_pages}
use Rattle.doc_server.proofs.site.put_pages.Given as goal

abbrev pub invariant-loop-page : goal.invariant-loop-page
invariant-loop-page g l = record {
  world : with_pages l.fn.hub.1 l.pages l.texts ≡ with_pages l.hub.1 (drop l.page-index l.pages) l.left;
  same : g.R.Renderer.page l.hub.0 ≡ g.R.Renderer.page l.fn.hub.0;
}
