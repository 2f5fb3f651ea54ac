use Rattle.std.proofs.Common.{refl, ◌∙◌, arith}
use Rattle.doc_server_rounds.proofs.RoundSteps.{all_start, all_join}
use Rattle.doc_server_rounds.proofs.round.make_passes.Goals as goal

pub passes-init : goal.passes-init
passes-init g c = record {
  serves = all_start (g.R.Renderer.page c.args.hub.now.0) c.args.hub.now.1 c.args.links.now;
  same = refl;
  turns = omega arith;
}

pub passes-preserved : goal.passes-preserved
passes-preserved g c = record {
  serves = all_join (g.R.Renderer.page c.args.hub.now.0) (g.R.Renderer.page c.passes.hub.0) c.args.hub.now.1 c.passes.hub.1
      c.pass_all.new.hub.1 c.args.links.now c.passes.links c.pass_all.new.links c.passes.invariant.same c.passes.invariant.serves
      c.pass_all.ensures.serves;
  same = c.pass_all.ensures.same ∙ c.passes.invariant.same;
  turns = omega (arith, c.passes-test.true);
}
