use Rattle.doc_server_serving.specs.Saved.{IsAllSaved, IsReady}
use Rattle.trial_site.proofs.serving.turning.make_turns.Given as goal

abbrev pub invariant-turns : goal.invariant-turns
invariant-turns g l = record {
  all : IsAllSaved l.saved;
  ready : IsReady g.D.Device.seen g.D.Device.may_leave g.D.Device.failed g.D.Device.stale l.saved;
}
