use Rattle.std.proofs.Common.{refl, sym, ap, ◌∙◌, subst, length, ◌+◌}
use Rattle.doc_server_rounds.specs.Made.{Makes}
use Rattle.doc_server_rounds.proofs.Making.{none_made, one_made, one_longer}
use Rattle.doc_server_rounds.proofs.accepting.accept_links.Goals as goal

pub peers-init : goal.peers-init
peers-init g c = record {
  made = subst (λ l. Makes (g.R.Renderer.page c.args.hub.now.0) c.args.hub.now.1 l c.args.hub.now.1) (sym c.requires.none)
      (none_made (g.R.Renderer.page c.args.hub.now.0) c.args.hub.now.1);
  long = ap length c.requires.none;
  same = refl;
}

pub peers-preserved : goal.peers-preserved
peers-preserved g c = record {
  made = one_made (g.R.Renderer.page c.args.hub.now.0) (g.R.Renderer.page c.peers.hub.0) c.args.hub.now.1 c.peers.hub.1
      c.accept_link.new.hub.1 c.peers.links.items c.accept_link.new.links.items c.peers.invariant.same c.peers.invariant.made
      c.in_ok-accept_link.ensures.made;
  long = one_longer (g.R.Renderer.page c.peers.hub.0) c.peers.hub.1 c.accept_link.new.hub.1 c.peers.links.items
      c.accept_link.new.links.items c.in_ok-accept_link.ensures.made ∙ ap (λ n. n + 1) c.peers.invariant.long;
  same = c.accept_link.ensures.same ∙ c.peers.invariant.same;
}
