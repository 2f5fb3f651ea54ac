use Rattle.std.proofs.Common.{take}
use Rattle.doc_server_network.specs.Networks.{Recalls, Rests, Stays}
use Rattle.doc_server_turns.specs.Hearing.{SparesAll}
use Rattle.doc_server_turns.specs.Parts.{StayBut}
use Rattle.doc_server_turns.specs.Wirings.{AreWoken, Gives, HaveSent}
use Rattle.doc_server_turns.proofs.peers.Peers.send_all.Given as goal

abbrev pub invariant-numbers : goal.invariant-numbers
invariant-numbers g l = record {
  gives : Gives (g.N.Network.gone l.fn.net) (g.N.Network.gone l.net) (g.N.Network.has_ended l.net) l.fn.self l.self;
  sent : HaveSent (take l.id-index l.ready) l.self;
  came : Rests (g.N.Network.came l.fn.net) (g.N.Network.came l.net);
  spares : SparesAll l.fn.self l.self;
  others : StayBut (take l.id-index l.ready) l.fn.self l.self;
  woken : AreWoken (g.N.Network.wakes l.fn.net) l.fn.self → AreWoken (g.N.Network.wakes l.net) l.self;
  ended : Stays (g.N.Network.has_ended l.fn.net) (g.N.Network.has_ended l.net);
  free : Stays (g.N.Network.is_free l.fn.net) (g.N.Network.is_free l.net);
  calls : Recalls (g.N.Network.made l.fn.net) (g.N.Network.made l.net);
}
