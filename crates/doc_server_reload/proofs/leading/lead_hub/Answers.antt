use Rattle.std.proofs.Common.{◌∙◌, ap, Some}
use Rattle.doc_server_reload.proofs.LeadingSteps.{goes_on, media_stay, no_more, one_more, stops}
use Rattle.doc_server_reload.proofs.leading.lead_hub.Goals as goal

pub returns-in_err-is_accepted-clause-runs : goal.returns-in_err-is_accepted-clause-runs
returns-in_err-is_accepted-clause-runs g c =
    c.loop-edit.invariant.runs c.make_edit-outcome.new.hub.1
    (one_more (g.R.Renderer.page c.args.hub.now.0) (g.R.Renderer.page c.loop-edit.hub.0) c.loop-edit.invariant.same c.args.edits.now
    c.loop-edit.edit-index c.edit-item.result c.loop-edit-test.true c.edit-item.is c.loop-edit.hub.1 c.make_edit-outcome.new.hub.1
    c.make_edit-outcome.result c.make_edit-outcome.ensures.world c.make_edit-outcome.new.hub.1
    (no_more (g.R.Renderer.page c.args.hub.now.0) c.args.edits.now c.make_edit-outcome.new.hub.1))

pub returns-then-not-branch-clause-runs : goal.returns-then-not-branch-clause-runs
returns-then-not-branch-clause-runs g c =
    c.loop-edit.invariant.runs c.make_edit-outcome.new.hub.1
    (one_more (g.R.Renderer.page c.args.hub.now.0) (g.R.Renderer.page c.loop-edit.hub.0) c.loop-edit.invariant.same c.args.edits.now
    c.loop-edit.edit-index c.edit-item.result c.loop-edit-test.true c.edit-item.is c.loop-edit.hub.1 c.make_edit-outcome.new.hub.1
    c.make_edit-outcome.result c.make_edit-outcome.ensures.world c.make_edit-outcome.new.hub.1
    (no_more (g.R.Renderer.page c.args.hub.now.0) c.args.edits.now c.make_edit-outcome.new.hub.1))

pub returns-then-not-branch-clause-made : goal.returns-then-not-branch-clause-made
returns-then-not-branch-clause-made g c =
    stops (g.R.Renderer.page c.args.hub.now.0) (g.R.Renderer.page c.loop-edit.hub.0) c.loop-edit.invariant.same c.args.edits.now
    c.loop-edit.edit-index c.edit-item.result c.loop-edit-test.true c.edit-item.is c.loop-edit.hub.1 c.make_edit-outcome.new.hub.1
    c.make_edit-outcome.result c.make_edit-outcome.ensures.world _ _ c.loop-edit.invariant.media c.loop-edit.invariant.made
    (c.in_ok-is_accepted.ensures ∙ ap Some c.if-not-branch.true)

pub loop-edit-preserved : goal.loop-edit-preserved
loop-edit-preserved g c = record {
  runs = λ v rest.
      c.loop-edit.invariant.runs v
      (one_more (g.R.Renderer.page c.args.hub.now.0) (g.R.Renderer.page c.loop-edit.hub.0) c.loop-edit.invariant.same c.args.edits.now
      c.loop-edit.edit-index c.edit-item.result c.loop-edit-test.true c.edit-item.is c.loop-edit.hub.1 c.make_edit-outcome.new.hub.1
      c.make_edit-outcome.result c.make_edit-outcome.ensures.world v rest);
  made = goes_on (g.R.Renderer.page c.args.hub.now.0) (g.R.Renderer.page c.loop-edit.hub.0) c.loop-edit.invariant.same c.args.edits.now
      c.loop-edit.edit-index c.edit-item.result c.loop-edit-test.true c.edit-item.is c.loop-edit.hub.1 c.make_edit-outcome.new.hub.1
      c.make_edit-outcome.result c.make_edit-outcome.ensures.world _ _ c.loop-edit.invariant.media c.loop-edit.invariant.made
      (c.in_ok-is_accepted.ensures ∙ ap Some c.if-not-branch.false);
  media = media_stay (g.R.Renderer.page c.args.hub.now.0) (g.R.Renderer.page c.loop-edit.hub.0) c.loop-edit.invariant.same
      c.args.edits.now c.loop-edit.edit-index c.edit-item.result c.loop-edit-test.true c.edit-item.is c.loop-edit.hub.1
      c.make_edit-outcome.new.hub.1 c.make_edit-outcome.result c.make_edit-outcome.ensures.world ∙ c.loop-edit.invariant.media;
  same = c.make_edit-outcome.ensures.same ∙ c.loop-edit.invariant.same;
}

pub returns-clause-runs : goal.returns-clause-runs
returns-clause-runs g c =
    c.loop-edit.invariant.runs c.loop-edit.hub.1
    (no_more (g.R.Renderer.page c.args.hub.now.0) c.args.edits.now c.loop-edit.hub.1)
