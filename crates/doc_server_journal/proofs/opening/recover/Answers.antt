use Rattle.std.proofs.Common.{◌≡◌, IfSome, Err, ap, sym, subst}
use Rattle.doc_server_journal.specs.Openings.{of_load, of_reading}
use Rattle.doc_server_journal.specs.declared.fault.OpenFault.TheVariants.{Failed, Memory}
use Rattle.doc_server_journal.proofs.OpeningLemmas.{not_loaded, not_read, refused_so, so_each, not_failed, untouched, repaired}
use Rattle.doc_server_journal.proofs.opening.recover.Goals as goal

pub returns-in_err-loaded-clause-refused : goal.returns-in_err-loaded-clause-refused
returns-in_err-loaded-clause-refused g c =
    refused_so c.from_residual.result (of_load c.in_err-loaded.field-0.0) c.args.most (g.D.Device.seen c.args.device.now)
    (g.D.Device.seen c.load.new.device) (g.D.Device.failed c.load.new.device) c.from_residual.ensures.1
    (not_loaded c.args.most (g.D.Device.seen c.args.device.now) (g.D.Device.seen c.load.new.device) (g.D.Device.failed c.load.new.device)
    c.in_err-loaded.field-0.0 (λ is. c.in_err-loaded.ensures.long (ap (λ e. Err e) is)) c.in_err-loaded.ensures.seen
    c.in_err-loaded.ensures.cause)

pub returns-in_err-loaded-clause-any_moment : goal.returns-in_err-loaded-clause-any_moment
returns-in_err-loaded-clause-any_moment g c = λ fresh texts.
    untouched g.D.Device.seen g.D.Device.may_leave g.D.Device.moment g.D.Device.left_since c.args.device.now c.load.new.device
    c.load.ensures.any_moment texts

pub returns-in_err-loaded-clause-untouched : goal.returns-in_err-loaded-clause-untouched
returns-in_err-loaded-clause-untouched g c =
    so_each g.D.Device.moment g.D.Device.left_since c.args.device.now c.load.new.device (g.D.Device.may_leave c.args.device.now)
    c.from_residual.result c.load.ensures.any_moment

pub returns-in_err-found-clause-refused : goal.returns-in_err-found-clause-refused
returns-in_err-found-clause-refused g c =
    let known = subst (λ b. IfSome (g.D.Device.seen c.args.device.now) (λ f. f ≡ b)) (sym c.get-bytes.ensures)
    c.in_ok-loaded.ensures.bytes in
    refused_so c.from_residual-in_err-found.result (of_reading c.in_err-found.field-0.0) c.args.most (g.D.Device.seen c.args.device.now)
    (g.D.Device.seen c.load.new.device) (g.D.Device.failed c.load.new.device) c.from_residual-in_err-found.ensures.1
    (not_read c.args.most (g.D.Device.seen c.args.device.now) (g.D.Device.seen c.load.new.device) (g.D.Device.failed c.load.new.device)
    c.get-bytes.result.now c.in_err-found.field-0.0 known c.load.ensures.seen c.in_ok-loaded.ensures.cause c.in_err-found.ensures.refused)

pub returns-in_err-found-clause-any_moment : goal.returns-in_err-found-clause-any_moment
returns-in_err-found-clause-any_moment g c = λ fresh texts.
    untouched g.D.Device.seen g.D.Device.may_leave g.D.Device.moment g.D.Device.left_since c.args.device.now c.load.new.device
    c.load.ensures.any_moment texts

pub returns-in_err-found-clause-untouched : goal.returns-in_err-found-clause-untouched
returns-in_err-found-clause-untouched g c =
    so_each g.D.Device.moment g.D.Device.left_since c.args.device.now c.load.new.device (g.D.Device.may_leave c.args.device.now)
    c.from_residual-in_err-found.result c.load.ensures.any_moment

pub returns-in_err-again-clause-refused : goal.returns-in_err-again-clause-refused
returns-in_err-again-clause-refused g c =
    refused_so c.from_residual-in_err-again.result Memory c.args.most (g.D.Device.seen c.args.device.now)
    (g.D.Device.seen c.load.new.device) (g.D.Device.failed c.load.new.device) c.from_residual-in_err-again.ensures.1
    (c.load.ensures.seen, c.in_ok-loaded.ensures.cause)

pub returns-in_err-again-clause-any_moment : goal.returns-in_err-again-clause-any_moment
returns-in_err-again-clause-any_moment g c = λ fresh texts.
    untouched g.D.Device.seen g.D.Device.may_leave g.D.Device.moment g.D.Device.left_since c.args.device.now c.load.new.device
    c.load.ensures.any_moment texts

pub returns-in_err-again-clause-untouched : goal.returns-in_err-again-clause-untouched
returns-in_err-again-clause-untouched g c =
    so_each g.D.Device.moment g.D.Device.left_since c.args.device.now c.load.new.device (g.D.Device.may_leave c.args.device.now)
    c.from_residual-in_err-again.result c.load.ensures.any_moment

pub repair-requires-clause-usable : goal.repair-requires-clause-usable
repair-requires-clause-usable g c = c.in_ok-loaded.ensures.cause

pub repair-requires-clause-known : goal.repair-requires-clause-known
repair-requires-clause-known g c =
    let known = subst (λ b. IfSome (g.D.Device.seen c.args.device.now) (λ f. f ≡ b)) (sym c.get-bytes.ensures)
    c.in_ok-loaded.ensures.bytes in
    subst (λ o. IfSome o (λ f. f ≡ c.get-bytes.result.now)) (sym c.load.ensures.seen) known

pub repair-requires-clause-found : goal.repair-requires-clause-found
repair-requires-clause-found g c =
    c.in_ok-found.ensures.found

pub returns-in_err-repair-clause-refused : goal.returns-in_err-repair-clause-refused
returns-in_err-repair-clause-refused g c =
    refused_so c.from_residual-in_err-repair.result Failed c.args.most (g.D.Device.seen c.args.device.now)
    (g.D.Device.seen c.repair.new.device) (g.D.Device.failed c.repair.new.device) c.from_residual-in_err-repair.ensures.1
    c.in_err-repair.ensures.cause

pub returns-in_err-repair-clause-any_moment : goal.returns-in_err-repair-clause-any_moment
returns-in_err-repair-clause-any_moment g c = λ fresh texts.
    let known = subst (λ b. IfSome (g.D.Device.seen c.args.device.now) (λ f. f ≡ b)) (sym c.get-bytes.ensures)
    c.in_ok-loaded.ensures.bytes in
    repaired g.D.Device.seen g.D.Device.may_leave g.D.Device.moment g.D.Device.left_since c.args.device.now c.load.new.device
    c.load.ensures.any_moment
    c.load.ensures.crash c.load.ensures.seen c.get-bytes.result.now c.in_ok-found.found c.in_ok-found.ensures.found known
    c.repair.new.device
    texts
    (c.repair.ensures.any_moment (λ i was. fresh i (c.load.ensures.stale i was)))

pub returns-in_err-repair-clause-untouched : goal.returns-in_err-repair-clause-untouched
returns-in_err-repair-clause-untouched g c =
    not_failed g.D.Device.moment g.D.Device.left_since c.args.device.now c.repair.new.device (g.D.Device.may_leave c.args.device.now)
    c.from_residual-in_err-repair.result c.from_residual-in_err-repair.ensures.1

pub returns-clause-found : goal.returns-clause-found
returns-clause-found g c =
    let known = subst (λ b. IfSome (g.D.Device.seen c.args.device.now) (λ f. f ≡ b)) (sym c.get-bytes.ensures)
    c.in_ok-loaded.ensures.bytes in
    (c.get-bytes.result.now, c.in_ok-found.ensures.found, known, c.in_ok-repair.ensures.file c.in_ok-found.ensures.found)

pub returns-clause-any_moment : goal.returns-clause-any_moment
returns-clause-any_moment g c = λ fresh texts.
    let known = subst (λ b. IfSome (g.D.Device.seen c.args.device.now) (λ f. f ≡ b)) (sym c.get-bytes.ensures)
    c.in_ok-loaded.ensures.bytes in
    repaired g.D.Device.seen g.D.Device.may_leave g.D.Device.moment g.D.Device.left_since c.args.device.now c.load.new.device
    c.load.ensures.any_moment
    c.load.ensures.crash c.load.ensures.seen c.get-bytes.result.now c.in_ok-found.found c.in_ok-found.ensures.found known
    c.repair.new.device
    texts
    (c.repair.ensures.any_moment (λ i was. fresh i (c.load.ensures.stale i was)))

pub returns-clause-durable : goal.returns-clause-durable
returns-clause-durable g c = λ behind. c.in_ok-repair.ensures.durable (λ i here. behind i (c.load.ensures.stale i here))

pub returns-clause-fresh : goal.returns-clause-fresh
returns-clause-fresh g c = λ behind. c.in_ok-repair.ensures.fresh (λ i here. behind i (c.load.ensures.stale i here))

pub returns-clause-usable : goal.returns-clause-usable
returns-clause-usable g c = c.in_ok-repair.ensures.cause
