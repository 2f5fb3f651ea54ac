use Rattle.std.proofs.Common.{refl}
use Rattle.doc_server_serving.proofs.Accepting.{quiet_none}
use Rattle.doc_server_serving.proofs.Crashing.{leaves_itself}
use Rattle.doc_server_turns.proofs.Sites.{same_site}
use Rattle.doc_server_network.proofs.Leading.{same_is_unedited}
use Rattle.doc_server_turns.proofs.Unedited.{no_yes}
use Rattle.doc_server_serving.proofs.server.look.Goals as goal

pub keep_room-requires-clause-ready : goal.keep_room-requires-clause-ready
keep_room-requires-clause-ready g c = c.requires.ready

pub keep_room-requires-clause-all : goal.keep_room-requires-clause-all
keep_room-requires-clause-all g c = c.requires.all

pub returns-then-not-is_time-clause-quiet : goal.returns-then-not-is_time-clause-quiet
returns-then-not-is_time-clause-quiet g c =
    quiet_none (g.R.Renderer.page c.args.saved.now.hub.0) c.args.saved.now.hub.1 c.args.saved.now.hub.1 refl

pub returns-then-not-is_found-clause-quiet : goal.returns-then-not-is_found-clause-quiet
returns-then-not-is_found-clause-quiet g c =
    quiet_none (g.R.Renderer.page c.args.saved.now.hub.0) c.args.saved.now.hub.1 c.args.saved.now.hub.1 refl

pub returns-then-not-is_time-clause-any_moment : goal.returns-then-not-is_time-clause-any_moment
returns-then-not-is_time-clause-any_moment g c =
    λ config begin is.
    leaves_itself g.D.Device.seen g.D.Device.moment g.D.Device.left_since g.D.Device.may_leave g.D.Device.failed g.D.Device.stale g.met.D.Device.only_now
    config begin c.args.saved.now.journal c.args.saved.now.unsaved c.args.saved.now.hub.1 is

pub returns-then-not-is_time-clause-site : goal.returns-then-not-is_time-clause-site
returns-then-not-is_time-clause-site g c = same_site c.args.saved.now.hub.1

pub returns-then-not-is_found-clause-any_moment : goal.returns-then-not-is_found-clause-any_moment
returns-then-not-is_found-clause-any_moment g c =
    λ config begin is.
    leaves_itself g.D.Device.seen g.D.Device.moment g.D.Device.left_since g.D.Device.may_leave g.D.Device.failed g.D.Device.stale g.met.D.Device.only_now
    config begin c.args.saved.now.journal c.args.saved.now.unsaved c.args.saved.now.hub.1 is

pub returns-then-not-is_found-clause-site : goal.returns-then-not-is_found-clause-site
returns-then-not-is_found-clause-site g c = same_site c.args.saved.now.hub.1

pub returns-then-not-is_time-clause-unedited : goal.returns-then-not-is_time-clause-unedited
returns-then-not-is_time-clause-unedited g c = λ is. same_is_unedited c.args.saved.now c.args.saved.now refl

pub returns-then-not-is_found-clause-unedited : goal.returns-then-not-is_found-clause-unedited
returns-then-not-is_found-clause-unedited g c = λ is. absurd (no_yes _ (c.is_time.ensures is) c.if-not-is_time.false)

pub returns-in_err-keep_room-clause-unedited : goal.returns-in_err-keep_room-clause-unedited
returns-in_err-keep_room-clause-unedited g c = λ is. absurd (no_yes _ (c.is_time.ensures is) c.if-not-is_time.false)

pub returns-clause-unedited : goal.returns-clause-unedited
returns-clause-unedited g c = λ is. absurd (no_yes _ (c.is_time.ensures is) c.if-not-is_time.false)
