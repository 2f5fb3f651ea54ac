use Rattle.std.proofs.Common.{refl}
use Rattle.std.specs.Prelude.{Ok}
use Rattle.doc_hub_events.specs.declared.event.Event.TheVariants as events
use Rattle.doc_hub_events.specs.declared.event.ReaderEdit.TheVariants as reader_edits
use Rattle.doc_server_network.proofs.QuietEvents.{sets_apart}
use Rattle.doc_server_turns.specs.Settings.{IsSetting}
use Rattle.doc_server_turns.proofs.QuietRuns.{quiet_by_one, quiet_join}
use Rattle.doc_server_turns.proofs.Settings.{none_sent}
use Rattle.doc_server_turns.proofs.setting.set_both.Goals as goal

pub returns-in_err-set_media-clause-quiet : goal.returns-in_err-set_media-clause-quiet
returns-in_err-set_media-clause-quiet g c =
    quiet_by_one (IsSetting c.args.readers c.args.media) (g.R.Renderer.page c.args.saved.now.hub.0) c.args.saved.now.hub.1
    c.set_media.new.self.hub.1 (events.SetMedia c.args.media) c.set_media.result refl c.set_media.ensures.world refl
    (none_sent c.set_media.result)

pub returns-clause-quiet : goal.returns-clause-quiet
returns-clause-quiet g c =
    quiet_join (IsSetting c.args.readers c.args.media) (g.R.Renderer.page c.args.saved.now.hub.0)
    (g.R.Renderer.page c.set_media.new.self.hub.0) c.args.saved.now.hub.1 c.set_media.new.self.hub.1 c.set_readers.new.self.hub.1
    c.set_media.ensures.same
    (quiet_by_one (IsSetting c.args.readers c.args.media) (g.R.Renderer.page c.args.saved.now.hub.0) c.args.saved.now.hub.1
    c.set_media.new.self.hub.1 (events.SetMedia c.args.media) c.set_media.result refl c.set_media.ensures.world refl
    (none_sent c.set_media.result))
    (quiet_by_one (IsSetting c.args.readers c.args.media) (g.R.Renderer.page c.set_media.new.self.hub.0) c.set_media.new.self.hub.1
    c.set_readers.new.self.hub.1 (events.Reader (reader_edits.All c.args.readers)) (Ok tt) refl c.set_readers.ensures.world refl refl)

pub returns-clause-apart : goal.returns-clause-apart
returns-clause-apart g c =
    sets_apart (g.R.Renderer.page c.args.saved.now.hub.0) c.args.saved.now.hub.1 c.set_media.new.self.hub.1 c.args.media
    c.in_ok-set_media.ensures.world
