use Rattle.std.proofs.Common.{refl}
use Rattle.doc_server_network.proofs.Saving.{steps}
use Rattle.doc_server_network.proofs.saved_hub.SavedHub.step.Goals as goal

pub returns-clause-saved : goal.returns-clause-saved
returns-clause-saved g c =
    λ config begin is.
    let made = c.step_and_keep.ensures.edit in
    steps (g.R.Renderer.page c.args.self.now.hub.0) c.args.self.now.hub.1 c.step_and_keep.new.hub.1 c.args.id c.step_and_keep.result made.0
    c.step_and_keep.ensures.world made.1 g.D.Device.seen g.D.Device.may_leave g.D.Device.failed g.D.Device.stale
    c.turns_are_restored.ensures.restored c.turns_are_restored.ensures.of_calls c.args.self.now.unsaved c.step_and_keep.new.edits made.2
    c.args.self.now.journal config begin c.requires.room is

pub returns-in_default-clause-rests : goal.returns-in_default-clause-rests
returns-in_default-clause-rests g c = λ reads. record {
  site = c.steps_that_read_leave_the_site.ensures (g.R.Renderer.page c.args.self.now.hub.0) c.args.self.now.hub.1 c.step.new.self.1
      c.args.id c.step.result c.step.ensures.world reads;
  journal = refl;
  unsaved = refl;
}

pub returns-clause-rests : goal.returns-clause-rests
returns-clause-rests g c = λ reads. record {
  site = c.steps_that_read_leave_the_site.ensures (g.R.Renderer.page c.args.self.now.hub.0) c.args.self.now.hub.1 c.step_and_keep.new.hub.1
      c.args.id c.step_and_keep.result c.step_and_keep.ensures.world reads;
  journal = refl;
  unsaved = c.step_and_keep.ensures.rests reads;
}
