use Rattle.std.proofs.Common.{◌≡◌, ◌≤◌}
use Rattle.std.specs.Prelude.{◌⊎◌}
use Rattle.std.specs.FinMap as map
use Rattle.doc_server_network.specs.Crashes.{CrashesLeave}
use Rattle.doc_server_network.specs.Networks.{WasWaitedFor}
use Rattle.doc_server_network.specs.Saved.{IsAllSaved, IsReady, IsSettled}
use Rattle.doc_store.specs.Store.{StoreState}
use Rattle.doc_server_serving.specs.Crashing.{AreKnown, RestoresFrontBy}
use Rattle.doc_server_serving.specs.Forces.{AreAllOfCalls, IsInForce, IsSettledInForce}
use Rattle.doc_server_serving.specs.Invariants.{GoesOnWith}
use Rattle.doc_server_serving.proofs.server.Server.serve.Given as goal

abbrev pub invariant-turns : goal.invariant-turns
invariant-turns g l = record {
  all : IsAllSaved l.saved;
  ready : IsReady g.D.Device.seen g.D.Device.may_leave g.D.Device.failed g.D.Device.stale l.saved;
  settled : (config : StoreState) → IsSettled g.D.Device.seen g.D.Device.may_leave g.D.Device.failed g.D.Device.stale config l.fn.saved
      → AreAllOfCalls (g.S.Source.answered l.source)
      → IsSettledInForce g.D.Device.seen g.D.Device.may_leave g.D.Device.failed g.D.Device.stale (g.S.Source.answered l.source) config l.saved;
  bound : map.len l.self.peers ≤ l.fn.self.door.most;
  most : l.self.door.most ≡ l.fn.self.door.most;
  waited : (l.counter ≡ 0) ⊎ WasWaitedFor (g.N.Network.made l.net);
  goes : GoesOnWith g.R.Renderer.page g.N.Network.came g.N.Network.gone g.N.Network.wakes g.N.Network.is_free
      (g.S.Source.answered l.source) l.fn.saved.hub l.saved.hub
      l.fn.net l.net l.fn.self.peers l.self.peers;
  crashes : (config : StoreState) → AreKnown g.D.Device.seen
      → IsSettled g.D.Device.seen g.D.Device.may_leave g.D.Device.failed g.D.Device.stale config l.fn.saved
      → AreAllOfCalls (g.S.Source.answered l.source)
      → CrashesLeave g.D.Device.seen g.D.Device.moment g.D.Device.left_since
      (RestoresFrontBy (IsInForce (g.S.Source.answered l.source) config) (g.R.Renderer.page l.fn.saved.hub.0) l.fn.saved.hub.1
      goes.leads.run) l.fn.saved.journal l.saved.journal;
}
