use Rattle.doc_server_network.specs.Networks.{Recalls, Rests, Stays}
use Rattle.doc_server_turns.specs.Hearing.{RouseAll}
use Rattle.doc_server_turns.specs.Tellings.{IsNews}
use Rattle.doc_server_turns.specs.Wirings.{AreWoken, Gives}
use Rattle.doc_server_turns.proofs.telling.wake_told.Given as goal

abbrev pub invariant-told : goal.invariant-told
invariant-told g l = record {
  gives : Gives (g.N.Network.gone l.fn.net) (g.N.Network.gone l.net) (g.N.Network.has_ended l.net) l.fn.peers l.peers;
  news : IsNews l.news (g.N.Network.made l.net);
  rouses : RouseAll l.fn.peers l.peers;
  came : Rests (g.N.Network.came l.fn.net) (g.N.Network.came l.net);
  gone : Rests (g.N.Network.gone l.fn.net) (g.N.Network.gone l.net);
  woken : AreWoken (g.N.Network.wakes l.fn.net) l.fn.peers → AreWoken (g.N.Network.wakes l.net) l.peers;
  ended : Stays (g.N.Network.has_ended l.fn.net) (g.N.Network.has_ended l.net);
  free : Stays (g.N.Network.is_free l.fn.net) (g.N.Network.is_free l.net);
  calls : Recalls (g.N.Network.made l.fn.net) (g.N.Network.made l.net);
}
