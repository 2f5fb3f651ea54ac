use Rattle.std.specs.Prelude.{OnErr, Result, Ok, Err}
use Rattle.doc_server_compacting.proofs.Written.{either, holds}
use Rattle.doc_server_compacting.proofs.compacting.write_beside.Goals as goal

-- what holds anyway holds at an error
on_err : {X E P : Type 0} (result : Result X E) → P → OnErr result P
on_err (Ok x) is = tt
on_err (Err e) is = is

pub returns-in_err-take_name-clause-either : goal.returns-in_err-take_name-clause-either
returns-in_err-take_name-clause-either g c =
    let written = c.in_ok-journal.ensures.written in
    on_err c.from_residual-in_err-take_name.result
    (either (g.P.Place.named c.args.place.now) (g.P.Place.named c.beside.new.self) (g.P.Place.named c.take_name.new.self)
    (g.P.Device.Device.seen c.in_ok-journal.journal.device) c.args.config.now c.args.site.now.site c.in_ok-device.ensures.named
    (holds g.P.Device.Device.seen g.P.Device.Device.may_leave g.P.Device.Device.failed g.P.Device.Device.stale c.in_ok-journal.journal
    written.0 c.args.config.now c.args.site.now.site written.1 written.2)
    c.in_err-take_name.ensures.either)
