use Rattle.doc_server_serving.specs.Saved.{IsReady}
use Rattle.trial_site.proofs.serving.turning.step_all.Given as goal

abbrev pub invariant-steps : goal.invariant-steps
invariant-steps g l =
    IsReady g.D.Device.seen g.D.Device.may_leave g.D.Device.failed g.D.Device.stale l.fn.saved
    → IsReady g.D.Device.seen g.D.Device.may_leave g.D.Device.failed g.D.Device.stale l.saved
