use Rattle.doc_server_network.proofs.QuietEvents.{readers_give, sets_readers}
use Rattle.doc_server_network.proofs.Saving.{stays}
use Rattle.doc_server_network.proofs.saved_hub.SavedHub.set_readers.Goals as goal

pub returns-clause-saved : goal.returns-clause-saved
returns-clause-saved g c =
    λ config begin is.
    stays g.D.Device.seen g.D.Device.may_leave g.D.Device.failed g.D.Device.stale config begin c.args.self.now.journal
    c.args.self.now.unsaved c.args.self.now.hub.1 c.set_readers.new.self.1
    (sets_readers (g.R.Renderer.page c.args.self.now.hub.0) c.args.self.now.hub.1 c.set_readers.new.self.1 c.args.readers
    c.set_readers.ensures.world) is

pub returns-clause-given : goal.returns-clause-given
returns-clause-given g c =
    readers_give (g.R.Renderer.page c.args.self.now.hub.0) c.args.self.now.hub.1 c.set_readers.new.self.1 c.args.readers
    c.set_readers.ensures.world
