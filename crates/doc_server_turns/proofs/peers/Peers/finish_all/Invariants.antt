use Rattle.std.proofs.Common.{◌≡◌, length, take}
use Rattle.doc_server_network.specs.Networks.{Recalls, Rests, Stays}
use Rattle.doc_server_turns.specs.Hearing.{SparesAll}
use Rattle.doc_server_turns.specs.Parts.{StayBut}
use Rattle.doc_server_turns.specs.Wirings.{AreWoken, EndAll, LingerAll}
use Rattle.doc_server_turns.proofs.peers.Peers.finish_all.Given as goal

abbrev pub invariant-numbers : goal.invariant-numbers
invariant-numbers g l = record {
  lingers : LingerAll (g.N.Network.came l.fn.net) (g.N.Network.came l.net) l.fn.self l.self;
  ends : EndAll (take l.id-index l.ready) l.fn.self l.self;
  gone : Rests (g.N.Network.gone l.fn.net) (g.N.Network.gone l.net);
  spares : SparesAll l.fn.self l.self;
  others : StayBut (take l.id-index l.ready) l.fn.self l.self;
  woken : AreWoken (g.N.Network.wakes l.fn.net) l.fn.self → AreWoken (g.N.Network.wakes l.net) l.self;
  ended : Stays (g.N.Network.has_ended l.fn.net) (g.N.Network.has_ended l.net);
  free : Stays (g.N.Network.is_free l.fn.net) (g.N.Network.is_free l.net);
  calls : Recalls (g.N.Network.made l.fn.net) (g.N.Network.made l.net);
  room : length l.piece ≡ length l.fn.piece;
}
