use Rattle.std.proofs.Common.{◌≡◌, ◌≤◌, ◌++◌, [], List, length, true}
use Rattle.std.specs.FinMap as map
use Rattle.doc_hub.specs.Worlds.{World}
use Rattle.doc_server_network.specs.Networks.{Recalls, end_of_input}
use Rattle.doc_server_network.specs.Reloads.{IsUnderWay}
use Rattle.doc_server_network.specs.Saved.{IsAllSaved, IsReady}
use Rattle.doc_store.specs.Store.{StoreState}
use Rattle.doc_store.specs.declared.site_edit.SiteEdit.{SiteEdit}
use Rattle.doc_server_serving.specs.Invariants.{GoesOnBy}
use Rattle.doc_server_serving.specs.Leading.{IsOfLead}
use Rattle.doc_server_serving.proofs.server.Server.lead.Given as goal

abbrev pub invariant-parts : goal.invariant-parts
invariant-parts g l = record {
  goes : GoesOnBy g.R.Renderer.page g.N.Network.came g.N.Network.gone g.N.Network.wakes g.N.Network.is_free
      (IsOfLead l.lead.edits) l.fn.saved.hub l.saved.hub l.fn.net l.net l.fn.self.peers l.self.peers;
  done : (front : List SiteEdit) × (l.lead.edits ≡ front ++ l.left) × ((config : StoreState) (begin : World)
      → IsUnderWay g.D.Device.seen g.D.Device.may_leave g.D.Device.failed g.D.Device.stale config begin l.lead [] l.fn.saved
      → IsUnderWay g.D.Device.seen g.D.Device.may_leave g.D.Device.failed g.D.Device.stale config begin l.lead front l.saved);
  readers : l.saved.hub.1.readers ≡ l.fn.saved.hub.1.readers;
  journal : l.saved.journal ≡ l.fn.saved.journal;
  bound : map.len l.fn.self.peers ≤ l.fn.self.door.most → map.len l.self.peers ≤ l.fn.self.door.most;
  most : l.self.door.most ≡ l.fn.self.door.most;
  calls : Recalls (g.N.Network.made l.fn.net) (g.N.Network.made l.net);
  ends : l.has_ended ≡ true → g.N.Network.made l.net end_of_input;
  all : IsAllSaved l.saved;
  ready : IsReady g.D.Device.seen g.D.Device.may_leave g.D.Device.failed g.D.Device.stale l.saved;
}

abbrev pub decreases-parts : goal.decreases-parts
decreases-parts g l = length l.left
