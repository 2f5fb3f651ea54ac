use Rattle.std.proofs.Common.{refl, ◌∙◌}
use Rattle.doc_server_rounds.proofs.Pieces.{nothing_done}
use Rattle.doc_server_rounds.proofs.RoundLaws.{serves_join}
use Rattle.doc_server_rounds.proofs.link.Link.answer.Goals as goal

pub steps-init : goal.steps-init
steps-init g c = record {
  serves = nothing_done (g.R.Renderer.page c.args.hub.now.0) c.args.hub.now.1 c.args.self.now c.requires;
  opened = c.requires;
  same = refl;
}

pub steps-preserved : goal.steps-preserved
steps-preserved g c = record {
  serves = serves_join (g.R.Renderer.page c.args.hub.now.0) (g.R.Renderer.page c.steps.hub.0) c.args.hub.now.1 c.steps.hub.1
      c.step.new.hub.1 c.args.self.now c.steps.self c.step.new.self c.steps.invariant.same c.steps.invariant.serves c.step.ensures.serves;
  opened = c.step.ensures.open c.steps-test.true;
  same = c.step.ensures.same ∙ c.steps.invariant.same;
}

pub returns-clause-serves : goal.returns-clause-serves
returns-clause-serves g c =
    serves_join (g.R.Renderer.page c.args.hub.now.0) (g.R.Renderer.page c.steps.hub.0) c.args.hub.now.1 c.steps.hub.1
    c.step.new.hub.1 c.args.self.now c.steps.self c.step.new.self c.steps.invariant.same c.steps.invariant.serves c.step.ensures.serves
