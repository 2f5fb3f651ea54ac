use Rattle.doc_server_network.proofs.QuietEvents.{pushes}
use Rattle.doc_server_network.proofs.Saving.{stays}
use Rattle.doc_server_network.proofs.saved_hub.SavedHub.push.Goals as goal

pub returns-clause-saved : goal.returns-clause-saved
returns-clause-saved g c =
    λ config begin is.
    stays g.D.Device.seen g.D.Device.may_leave g.D.Device.failed g.D.Device.stale config begin c.args.self.now.journal
    c.args.self.now.unsaved c.args.self.now.hub.1 c.push.new.self.1
    (pushes (g.R.Renderer.page c.args.self.now.hub.0) c.args.self.now.hub.1 c.push.new.self.1 c.args.id c.args.bytes.now
    c.push.result c.push.ensures.world) is
