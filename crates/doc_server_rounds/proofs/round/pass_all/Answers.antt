use Rattle.std.proofs.Common.{refl, ◌∙◌}
use Rattle.doc_server_rounds.proofs.RoundSteps.{all_start, all_join}
use Rattle.doc_server_rounds.proofs.round.pass_all.Goals as goal

pub links-init : goal.links-init
links-init g c = record {
  serves = all_start (g.R.Renderer.page c.args.hub.now.0) c.args.hub.now.1 c.args.links.now;
  same = refl;
  long = refl;
}

pub links-preserved : goal.links-preserved
links-preserved g c = record {
  serves = all_join (g.R.Renderer.page c.args.hub.now.0) (g.R.Renderer.page c.links.hub.0) c.args.hub.now.1 c.links.hub.1
      c.pass_at.new.hub.1 c.args.links.now c.links.links c.pass_at.new.links c.links.invariant.same c.links.invariant.serves
      c.pass_at.ensures.serves;
  same = c.pass_at.ensures.same ∙ c.links.invariant.same;
  long = c.pass_at.ensures.length ∙ c.links.invariant.long;
}
