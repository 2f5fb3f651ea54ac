use Rattle.std.proofs.Common.{◌≡◌, ℕ, take}
use Rattle.std.specs.Prelude.{Contains, None}
use Rattle.std.specs.FinMap as map
use Rattle.doc_server_network.specs.Networks.{Recalls, Stays}
use Rattle.doc_server_network.specs.Saved.{IsReady, StaysSaved}
use Rattle.doc_server_turns.specs.Hearing.{WaitOn}
use Rattle.doc_server_turns.specs.Parts.{NoMore}
use Rattle.doc_server_listen.specs.Sites.{IsSameSite}
use Rattle.doc_server_turns.specs.Turns.{Turns}
use Rattle.doc_server_turns.specs.Wirings.{AreWoken}
use Rattle.doc_server_turns.proofs.letting_go.let_go.Given as goal

abbrev pub invariant-numbers : goal.invariant-numbers
invariant-numbers g l = record {
  turns : Turns (g.R.Renderer.page l.fn.saved.hub.0) l.fn.saved.hub.1 l.saved.hub.1 (take l.id-index l.gone)
      (g.N.Network.came l.fn.net) (g.N.Network.came l.net) (g.N.Network.gone l.fn.net) (g.N.Network.gone l.net) l.fn.peers l.peers;
  out : (k : ℕ) → Contains (take l.id-index l.gone) k → map.get l.peers k ≡ None;
  no_more : NoMore l.fn.peers l.peers;
  waits : WaitOn l.fn.peers l.peers;
  woken : AreWoken (g.N.Network.wakes l.fn.net) l.fn.peers → AreWoken (g.N.Network.wakes l.net) l.peers;
  ended : Stays (g.N.Network.has_ended l.fn.net) (g.N.Network.has_ended l.net);
  free : Stays (g.N.Network.is_free l.fn.net) (g.N.Network.is_free l.net);
  calls : Recalls (g.N.Network.made l.fn.net) (g.N.Network.made l.net);
  same : g.R.Renderer.page l.saved.hub.0 ≡ g.R.Renderer.page l.fn.saved.hub.0;
  site : IsSameSite l.fn.saved.hub.1 l.saved.hub.1;
  saved : StaysSaved g.D.Device.seen g.D.Device.may_leave g.D.Device.failed g.D.Device.stale l.fn.saved l.saved;
  ready : IsReady g.D.Device.seen g.D.Device.may_leave g.D.Device.failed g.D.Device.stale l.fn.saved
      → IsReady g.D.Device.seen g.D.Device.may_leave g.D.Device.failed g.D.Device.stale l.saved;
  journal : l.saved.journal ≡ l.fn.saved.journal;
  unsaved : l.saved.unsaved ≡ l.fn.saved.unsaved;
}
