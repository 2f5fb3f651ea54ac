use Rattle.std.proofs.Common.{subst}
use Rattle.doc_hub.specs.Runs.{Happens}
use Rattle.doc_hub_events.specs.declared.event.Event.TheVariants as events
use Rattle.doc_server_network.proofs.QuietEvents.{media_give, refuses_media}
use Rattle.doc_server_network.proofs.Saving.{on_err, stays}
use Rattle.doc_server_network.proofs.saved_hub.SavedHub.set_media.Goals as goal

pub returns-clause-given : goal.returns-clause-given
returns-clause-given g c =
    media_give (g.R.Renderer.page c.args.self.now.hub.0) c.args.self.now.hub.1 c.set_media.new.self.1 c.args.media c.set_media.result
    c.set_media.ensures.world

pub returns-clause-refused : goal.returns-clause-refused
returns-clause-refused g c =
    let render = g.R.Renderer.page c.args.self.now.hub.0 in
    on_err c.set_media.result _ (λ e is config begin saved.
    stays g.D.Device.seen g.D.Device.may_leave g.D.Device.failed g.D.Device.stale config begin c.args.self.now.journal
    c.args.self.now.unsaved c.args.self.now.hub.1 c.set_media.new.self.1
    (refuses_media render c.args.self.now.hub.1 c.set_media.new.self.1 c.args.media e
    (subst (Happens render c.args.self.now.hub.1 (events.SetMedia c.args.media) c.set_media.new.self.1) is
    c.set_media.ensures.world)) saved)
