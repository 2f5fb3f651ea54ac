use Rattle.std.proofs.Common.{ap}
use Rattle.std.specs.Prelude.{nat_le}
use Rattle.doc_server_listen.specs.Edits.{Kept}
use Rattle.doc_server_settling.specs.Reserves.{reserve}
use Rattle.doc_server_network.proofs.QuietEvents.{takes}
use Rattle.doc_server_network.proofs.Settling.{crashes_to_begin, grows, may_step_behind, stale_behind}
use Rattle.doc_server_network.proofs.Written.{grown_nowhere, grown_there}
use Rattle.doc_server_network.proofs.saved_hub.SavedHub.keep_reserve.Goals as goal

pub returns-in_err-has_grown-clause-any_moment : goal.returns-in_err-has_grown-clause-any_moment
returns-in_err-has_grown-clause-any_moment g c =
    λ config begin is.
    crashes_to_begin g.D.Device.seen g.D.Device.may_leave g.D.Device.failed g.D.Device.stale config g.D.Device.moment g.D.Device.left_since
    begin c.args.self.now.unsaved c.args.self.now.hub.1 c.args.self.now.hub.1 c.args.self.now.journal c.in-Some.journal
    c.keep_reserve.new.journal c.in-Some.is c.in_err-has_grown.ensures.any_moment is

pub returns-in_err-has_grown-clause-stale : goal.returns-in_err-has_grown-clause-stale
returns-in_err-has_grown-clause-stale g c =
    stale_behind g.D.Device.seen g.D.Device.may_leave g.D.Device.failed g.D.Device.stale c.args.self.now.journal c.args.self.now.unsaved
    c.in-Some.journal c.keep_reserve.new.journal c.in-Some.is c.requires.ready c.in_err-has_grown.ensures.stale

pub returns-clause-settled : goal.returns-clause-settled
returns-clause-settled g c =
    λ config is. (
      grows g.D.Device.seen g.D.Device.may_leave g.D.Device.failed g.D.Device.stale config c.args.self.now.unsaved c.lines_for.result
          c.args.self.now.hub.1 c.keep_reserve.new.hub.1 c.args.self.now.journal c.in-Some.journal c.keep_reserve.new.journal c.in-Some.is
          c.requires.all
          (takes (g.R.Renderer.page c.args.self.now.hub.0) c.args.self.now.hub.1 c.keep_reserve.new.hub.1
          (nat_le reserve c.keep_reserve.new.journal.room) c.in_ok-has_grown.ensures.taken)
          c.in_ok-has_grown.ensures.kept c.in_ok-has_grown.ensures.enough c.lines_for.ensures is.0,
      (ap (λ (k : Kept). k.lines) c.lines_for.ensures, ap (λ (k : Kept). k.is_whole) c.lines_for.ensures),
    )

pub returns-clause-enough : goal.returns-clause-enough
returns-clause-enough g c =
    λ config is.
    may_step_behind g.D.Device.seen g.D.Device.may_leave g.D.Device.failed g.D.Device.stale config c.args.self.now.unsaved
    c.lines_for.result c.args.self.now.hub.1 c.keep_reserve.new.hub.1 c.args.self.now.journal c.in-Some.journal
    c.keep_reserve.new.journal c.in-Some.is c.requires.all c.in_ok-has_grown.ensures.enough c.lines_for.ensures is.0

pub returns-clause-any_moment : goal.returns-clause-any_moment
returns-clause-any_moment g c =
    λ config begin is.
    crashes_to_begin g.D.Device.seen g.D.Device.may_leave g.D.Device.failed g.D.Device.stale config g.D.Device.moment g.D.Device.left_since
    begin c.args.self.now.unsaved c.args.self.now.hub.1 c.args.self.now.hub.1 c.args.self.now.journal c.in-Some.journal
    c.keep_reserve.new.journal c.in-Some.is c.in_ok-has_grown.ensures.any_moment is

pub returns-in_default-clause-grows : goal.returns-in_default-clause-grows
returns-in_default-clause-grows g c = grown_nowhere c.args.growth c.args.self.now.journal c.in_default.is

pub returns-clause-grows : goal.returns-clause-grows
returns-clause-grows g c =
    grown_there c.args.growth c.args.self.now.journal c.in-Some.journal c.keep_reserve.new.journal c.in_ok-has_grown.has_grown
    c.in-Some.is c.in_ok-has_grown.ensures.grows
