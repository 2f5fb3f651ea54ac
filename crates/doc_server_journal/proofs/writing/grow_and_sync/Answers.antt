use Rattle.std.proofs.Common.{inl, inr, ⊎_elim}
use Rattle.doc_server_journal.specs.Devices.{Grown, Stepped}
use Rattle.doc_server_journal.proofs.Moments.{one_call, change_and_sync}
use Rattle.doc_server_journal.proofs.Places.{lost_in_growth}
use Rattle.doc_server_journal.proofs.writing.grow_and_sync.Goals as goal

pub returns-in_err-added-clause-any_moment : goal.returns-in_err-added-clause-any_moment
returns-in_err-added-clause-any_moment g c =
    one_call g.D.Device.moment g.D.Device.left_since g.D.Device.may_leave g.met.D.Device.only_now c.args.device.now
    c.grow.new.self (Stepped (Grown c.args.count) (g.D.Device.may_leave c.args.device.now)) c.grow.ensures.time
    (λ x was. inl was) (λ x now. inr (c.grow.ensures.crash x now))

pub returns-in_err-sync-clause-any_moment : goal.returns-in_err-sync-clause-any_moment
returns-in_err-sync-clause-any_moment g c =
    change_and_sync g.D.Device.moment g.D.Device.left_since g.D.Device.may_leave g.met.D.Device.only_now c.args.device.now
    c.grow.new.self c.sync.new.self (Grown c.args.count)
    c.grow.ensures.time c.grow.ensures.crash c.sync.ensures.time c.sync.ensures.crash

pub returns-clause-any_moment : goal.returns-clause-any_moment
returns-clause-any_moment g c =
    change_and_sync g.D.Device.moment g.D.Device.left_since g.D.Device.may_leave g.met.D.Device.only_now c.args.device.now
    c.grow.new.self c.sync.new.self (Grown c.args.count)
    c.grow.ensures.time c.grow.ensures.crash c.sync.ensures.time c.sync.ensures.crash

pub returns-in_err-added-clause-lost : goal.returns-in_err-added-clause-lost
returns-in_err-added-clause-lost g c = λ durable i here. inl (c.grow.ensures.stale i here)

pub returns-in_err-sync-clause-lost : goal.returns-in_err-sync-clause-lost
returns-in_err-sync-clause-lost g c = λ durable i here.
    ⊎_elim (λ was. inl (c.grow.ensures.stale i was)) (λ unsure. inr
    (lost_in_growth (g.D.Device.seen c.args.device.now) (g.D.Device.seen c.grow.new.self)
    (g.D.Device.may_leave c.args.device.now) (g.D.Device.may_leave c.grow.new.self) durable i unsure
    c.args.count c.in_ok-added.added c.in_ok-added.ensures.grown c.grow.ensures.crash))
    (c.sync.ensures.lost i here)

pub returns-clause-lost : goal.returns-clause-lost
returns-clause-lost g c = λ durable i here.
    ⊎_elim (λ was. inl (c.grow.ensures.stale i was)) (λ unsure. inr
    (lost_in_growth (g.D.Device.seen c.args.device.now) (g.D.Device.seen c.grow.new.self)
    (g.D.Device.may_leave c.args.device.now) (g.D.Device.may_leave c.grow.new.self) durable i unsure
    c.args.count c.in_ok-added.added c.in_ok-added.ensures.grown c.grow.ensures.crash))
    (c.sync.ensures.lost i here)
