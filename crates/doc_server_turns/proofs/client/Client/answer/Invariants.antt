use Rattle.std.proofs.Common.{◌≡◌, ◌≤◌, ◌<◌, true, length}
use Rattle.doc_server_network.specs.Saved.{IsReady, IsUnedited, StaysSaved}
use Rattle.doc_server_turns.specs.Replies.{most_pending}
use Rattle.doc_server_turns.specs.Scopes.{only_reads}
use Rattle.doc_server_turns.proofs.AnswerSteps.{AnswersSharing}
use Rattle.doc_server_turns.proofs.client.Client.answer.Given as goal

abbrev pub invariant-steps : goal.invariant-steps
invariant-steps g l = record {
  answers : AnswersSharing (g.R.Renderer.page l.fn.saved.hub.0) l.fn.saved.hub.1 l.saved.hub.1 l.id l.fn.self l.self l.fn.share l.share;
  opened : l.self.is_open ≡ true;
  held : l.held < most_pending → length l.self.pending ≤ l.held;
  same : g.R.Renderer.page l.saved.hub.0 ≡ g.R.Renderer.page l.fn.saved.hub.0;
  saved : StaysSaved g.D.Device.seen g.D.Device.may_leave g.D.Device.failed g.D.Device.stale l.fn.saved l.saved;
  ready : IsReady g.D.Device.seen g.D.Device.may_leave g.D.Device.failed g.D.Device.stale l.fn.saved
      → IsReady g.D.Device.seen g.D.Device.may_leave g.D.Device.failed g.D.Device.stale l.saved;
  journal : l.saved.journal ≡ l.fn.saved.journal;
  unedited : only_reads l.scope ≡ true → IsUnedited l.fn.saved l.saved;
}
