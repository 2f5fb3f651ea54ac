use Rattle.std.proofs.Common.{◌≡◌, length, take, true}
use Rattle.doc_server_network.specs.Networks.{Recalls, Rests, Stays}
use Rattle.doc_server_network.specs.Saved.{IsReady, IsUnedited, StaysSaved}
use Rattle.doc_server_turns.specs.Parts.{StayBut}
use Rattle.doc_server_turns.specs.Scopes.{is_earlier, only_reads}
use Rattle.doc_server_turns.specs.Wirings.{AreWoken}
use Rattle.doc_server_turns.proofs.TableServing.{AllSharing}
use Rattle.doc_server_turns.proofs.peers.Peers.take_in_all.Given as goal

abbrev pub invariant-numbers : goal.invariant-numbers
invariant-numbers g l = record {
  serves : AllSharing (g.R.Renderer.page l.fn.saved.hub.0) l.fn.saved.hub.1 l.saved.hub.1 (take l.id-index l.ready)
      (g.N.Network.came l.fn.net) (g.N.Network.came l.net) (g.N.Network.has_ended l.net) l.fn.self l.self l.fn.share l.share
      (is_earlier l.scope);
  gone : Rests (g.N.Network.gone l.fn.net) (g.N.Network.gone l.net);
  others : StayBut (take l.id-index l.ready) l.fn.self l.self;
  woken : AreWoken (g.N.Network.wakes l.fn.net) l.fn.self → AreWoken (g.N.Network.wakes l.net) l.self;
  ended : Stays (g.N.Network.has_ended l.fn.net) (g.N.Network.has_ended l.net);
  free : Stays (g.N.Network.is_free l.fn.net) (g.N.Network.is_free l.net);
  calls : Recalls (g.N.Network.made l.fn.net) (g.N.Network.made l.net);
  same : g.R.Renderer.page l.saved.hub.0 ≡ g.R.Renderer.page l.fn.saved.hub.0;
  saved : StaysSaved g.D.Device.seen g.D.Device.may_leave g.D.Device.failed g.D.Device.stale l.fn.saved l.saved;
  ready : IsReady g.D.Device.seen g.D.Device.may_leave g.D.Device.failed g.D.Device.stale l.fn.saved
      → IsReady g.D.Device.seen g.D.Device.may_leave g.D.Device.failed g.D.Device.stale l.saved;
  journal : l.saved.journal ≡ l.fn.saved.journal;
  unedited : only_reads l.scope ≡ true → IsUnedited l.fn.saved l.saved;
  room : length l.piece ≡ length l.fn.piece;
}
