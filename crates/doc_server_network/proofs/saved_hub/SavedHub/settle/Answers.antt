use Rattle.std.proofs.Common.{Some, sym, ap, ◌∙◌}
use Rattle.doc_server_listen.specs.Edits.{Kept}
use Rattle.doc_server_network.proofs.Settling.{crashes, none_there, of_this, ready_behind, settled_at_rest, settles, stale_behind}
use Rattle.doc_server_network.proofs.Written.{all_written, none_written, nowhere}
use Rattle.doc_server_network.specs.Saved.{IsSavedIn}
use Rattle.doc_server_network.proofs.saved_hub.SavedHub.settle.Goals as goal

pub returns-then-is_empty-clause-settled : goal.returns-then-is_empty-clause-settled
returns-then-is_empty-clause-settled g c =
    λ config begin is.
    let told = c.in-Some-whole_lines.ensures in
    let none = told.1 ∙ ap Some (none_there c.in-Some-whole_lines.lines.now (sym c.if-is_empty.ensures)) in (
      settled_at_rest g.D.Device.seen g.D.Device.may_leave g.D.Device.failed g.D.Device.stale config begin c.args.self.now.unsaved
          c.args.self.now.hub.1 (Some c.in-Some.journal) (none, told.0)
          (of_this g.D.Device.seen g.D.Device.may_leave g.D.Device.failed g.D.Device.stale config
          (λ j. IsSavedIn g.D.Device.seen g.D.Device.may_leave g.D.Device.failed g.D.Device.stale config begin j
          c.args.self.now.unsaved c.args.self.now.hub.1) c.args.self.now.journal c.in-Some.journal c.in-Some.is is),
      (none, told.0),
    )

pub returns-in_err-append-clause-any_moment : goal.returns-in_err-append-clause-any_moment
returns-in_err-append-clause-any_moment g c =
    λ config begin is.
    let told = c.in-Some-whole_lines.ensures in
    crashes g.D.Device.seen g.D.Device.may_leave g.D.Device.failed g.D.Device.stale config g.D.Device.moment g.D.Device.left_since begin
    c.args.self.now.unsaved c.args.self.now.hub.1 c.args.self.now.journal c.in-Some.journal c.append.new.self
    c.in-Some-whole_lines.lines.now c.as_bytes.result.now c.in-Some.is told.0 told.1 c.as_bytes.ensures.value
    c.in_err-append.ensures.any_moment is

pub returns-in_err-append-clause-stale : goal.returns-in_err-append-clause-stale
returns-in_err-append-clause-stale g c =
    stale_behind g.D.Device.seen g.D.Device.may_leave g.D.Device.failed g.D.Device.stale c.args.self.now.journal c.args.self.now.unsaved
    c.in-Some.journal c.append.new.self c.in-Some.is c.requires.ready c.in_err-append.ensures.stale

pub returns-clause-ready : goal.returns-clause-ready
returns-clause-ready g c =
    ready_behind g.D.Device.seen g.D.Device.may_leave g.D.Device.failed g.D.Device.stale c.args.self.now.journal c.args.self.now.unsaved
    c.in-Some.journal c.append.new.self c.in-Some.is c.requires.ready c.as_bytes.result.now c.lines_for.result
    c.in_ok-append.ensures.acknowledged c.lines_for.ensures

pub returns-clause-settled : goal.returns-clause-settled
returns-clause-settled g c =
    λ config begin is.
    let told = c.in-Some-whole_lines.ensures in (
      settles g.D.Device.seen g.D.Device.may_leave g.D.Device.failed g.D.Device.stale config begin c.args.self.now.unsaved
          c.lines_for.result c.args.self.now.hub.1 c.args.self.now.journal c.in-Some.journal c.append.new.self
          c.in-Some-whole_lines.lines.now c.as_bytes.result.now c.in-Some.is told.0 told.1 (sym c.if-is_empty.ensures) told.2
          c.as_bytes.ensures.value c.in_ok-append.ensures.acknowledged c.in_ok-append.ensures.room c.lines_for.ensures is,
      (ap (λ (k : Kept). k.lines) c.lines_for.ensures, ap (λ (k : Kept). k.is_whole) c.lines_for.ensures),
    )

pub returns-clause-stale : goal.returns-clause-stale
returns-clause-stale g c =
    stale_behind g.D.Device.seen g.D.Device.may_leave g.D.Device.failed g.D.Device.stale c.args.self.now.journal c.args.self.now.unsaved
    c.in-Some.journal c.append.new.self c.in-Some.is c.requires.ready c.in_ok-append.ensures.stale

pub returns-clause-any_moment : goal.returns-clause-any_moment
returns-clause-any_moment g c =
    λ config begin is.
    let told = c.in-Some-whole_lines.ensures in
    crashes g.D.Device.seen g.D.Device.may_leave g.D.Device.failed g.D.Device.stale config g.D.Device.moment g.D.Device.left_since begin
    c.args.self.now.unsaved c.args.self.now.hub.1 c.args.self.now.journal c.in-Some.journal c.append.new.self
    c.in-Some-whole_lines.lines.now c.as_bytes.result.now c.in-Some.is told.0 told.1 c.as_bytes.ensures.value
    c.in_ok-append.ensures.any_moment is

pub returns-in_default-clause-time : goal.returns-in_default-clause-time
returns-in_default-clause-time g c = nowhere c.args.seconds c.args.self.now.unsaved.lines c.args.self.now.journal c.in_default.is

pub returns-then-is_empty-clause-time : goal.returns-then-is_empty-clause-time
returns-then-is_empty-clause-time g c =
    let told = c.in-Some-whole_lines.ensures in
    none_written c.args.seconds c.args.self.now.unsaved.lines c.args.self.now.journal c.in-Some.journal
    c.in-Some-whole_lines.lines.now c.in-Some.is told.1 (sym c.if-is_empty.ensures)

pub returns-clause-time : goal.returns-clause-time
returns-clause-time g c =
    let told = c.in-Some-whole_lines.ensures in
    all_written c.args.seconds c.args.self.now.unsaved.lines c.args.self.now.journal c.in-Some.journal
    c.in-Some-whole_lines.lines.now c.in-Some.is told.1 c.as_bytes.result.now c.append.new.self (sym c.if-is_empty.ensures)
    c.as_bytes.ensures.value c.in_ok-append.ensures.time
