use Rattle.doc_server_network.proofs.QuietEvents.{connects}
use Rattle.doc_server_network.proofs.Saving.{stays}
use Rattle.doc_server_network.proofs.saved_hub.SavedHub.connect.Goals as goal

pub returns-clause-saved : goal.returns-clause-saved
returns-clause-saved g c =
    λ config begin is.
    stays g.D.Device.seen g.D.Device.may_leave g.D.Device.failed g.D.Device.stale config begin c.args.self.now.journal
    c.args.self.now.unsaved c.args.self.now.hub.1 c.connect.new.self.1
    (connects (g.R.Renderer.page c.args.self.now.hub.0) c.args.self.now.hub.1 c.connect.new.self.1 c.connect.result
    c.connect.ensures.world) is
