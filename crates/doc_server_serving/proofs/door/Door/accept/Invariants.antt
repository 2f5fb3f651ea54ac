use Rattle.std.proofs.Common.{◌≡◌, ◌≤◌}
use Rattle.std.specs.Prelude.{◌⊎◌, true}
use Rattle.std.specs.FinMap as map
use Rattle.doc_server_network.specs.Networks.{HasNobody, Recalls, WasAsked}
use Rattle.doc_server_network.specs.Saved.{IsReady, StaysSaved}
use Rattle.doc_server_turns.specs.Hearing.{WaitOn}
use Rattle.doc_server_serving.specs.Invariants.{GoesOn}
use Rattle.doc_server_turns.specs.Parts.{NoMore}
use Rattle.doc_server_listen.specs.Sites.{IsSameSite}
use Rattle.doc_server_serving.proofs.door.Door.accept.Given as goal

abbrev pub invariant-accepts : goal.invariant-accepts
invariant-accepts g l = record {
  goes : GoesOn g.R.Renderer.page g.N.Network.came g.N.Network.gone g.N.Network.wakes g.N.Network.is_free l.fn.saved.hub l.saved.hub
      l.fn.net l.net l.fn.peers l.peers;
  no_more : NoMore l.fn.peers l.peers;
  waits : WaitOn l.fn.peers l.peers;
  bound : map.len l.fn.peers ≤ l.fn.self.most → map.len l.peers ≤ l.fn.self.most;
  most : l.self.most ≡ l.fn.self.most;
  asked : (l.counter ≡ 0) ⊎ ((l.self.rests ≡ true) ⊎ WasAsked l.fn.saved.hub.1.given (g.N.Network.made l.net));
  awaits : (l.self.is_awaited ≡ l.fn.self.is_awaited) ⊎ HasNobody l.fn.saved.hub.1.given (g.N.Network.made l.net);
  rests : l.fn.self.rests ≡ true → l.self.rests ≡ true;
  calls : Recalls (g.N.Network.made l.fn.net) (g.N.Network.made l.net);
  site : IsSameSite l.fn.saved.hub.1 l.saved.hub.1;
  saved : StaysSaved g.D.Device.seen g.D.Device.may_leave g.D.Device.failed g.D.Device.stale l.fn.saved l.saved;
  ready : IsReady g.D.Device.seen g.D.Device.may_leave g.D.Device.failed g.D.Device.stale l.fn.saved
      → IsReady g.D.Device.seen g.D.Device.may_leave g.D.Device.failed g.D.Device.stale l.saved;
  journal : l.saved.journal ≡ l.fn.saved.journal;
  unsaved : l.saved.unsaved ≡ l.fn.saved.unsaved;
}
