use Rattle.std.proofs.Common.{length}
use Rattle.doc_server_network.specs.Networks.{Recalls, Rests, RestsBut, Stays, StaysBut}
use Rattle.doc_server_turns.specs.Replies.{Starts, left_of}
use Rattle.doc_server_turns.specs.Wirings.{HandsOver}
use Rattle.doc_server_turns.proofs.sending.send_replies.Given as goal

abbrev pub invariant-replies : goal.invariant-replies
invariant-replies g l = record {
  gives : HandsOver (g.N.Network.gone l.fn.net l.id) (g.N.Network.gone l.net l.id) (left_of l.fn.sent l.fn.replies.items)
      (left_of l.sent l.replies.items);
  starts : Starts l.sent l.replies.items;
  others : RestsBut l.id (g.N.Network.gone l.fn.net) (g.N.Network.gone l.net);
  came : Rests (g.N.Network.came l.fn.net) (g.N.Network.came l.net);
  wakes : StaysBut l.id (g.N.Network.wakes l.fn.net) (g.N.Network.wakes l.net);
  ended : Stays (g.N.Network.has_ended l.fn.net) (g.N.Network.has_ended l.net);
  free : Stays (g.N.Network.is_free l.fn.net) (g.N.Network.is_free l.net);
  calls : Recalls (g.N.Network.made l.fn.net) (g.N.Network.made l.net);
}

abbrev pub decreases-replies : goal.decreases-replies
decreases-replies g l = length l.replies.items
