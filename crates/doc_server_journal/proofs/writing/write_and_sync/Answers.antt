use Rattle.std.proofs.Common.{inl, inr, ⊎_elim, subst, sym}
use Rattle.doc_server_journal.specs.Devices.{Torn, Stepped, LeavesFile}
use Rattle.doc_server_journal.proofs.Moments.{one_call, change_and_sync}
use Rattle.doc_server_journal.proofs.Places.{lost_in_write}
use Rattle.doc_server_journal.proofs.RepairLemmas.{on_ok}
use Rattle.doc_server_journal.proofs.writing.write_and_sync.Goals as goal

pub returns-in_err-write_at-clause-any_moment : goal.returns-in_err-write_at-clause-any_moment
returns-in_err-write_at-clause-any_moment g c =
    one_call g.D.Device.moment g.D.Device.left_since g.D.Device.may_leave g.met.D.Device.only_now c.args.device.now
    c.write_at.new.self (Stepped (Torn c.args.at c.args.bytes.now) (g.D.Device.may_leave c.args.device.now)) c.write_at.ensures.time
    (λ x was. inl was) (λ x now. inr (c.write_at.ensures.crash x now))

pub returns-clause-any_moment : goal.returns-clause-any_moment
returns-clause-any_moment g c =
    change_and_sync g.D.Device.moment g.D.Device.left_since g.D.Device.may_leave g.met.D.Device.only_now c.args.device.now
    c.write_at.new.self c.sync.new.self (Torn c.args.at c.args.bytes.now)
    c.write_at.ensures.time c.write_at.ensures.crash c.sync.ensures.time c.sync.ensures.crash

pub returns-in_err-write_at-clause-lost : goal.returns-in_err-write_at-clause-lost
returns-in_err-write_at-clause-lost g c = λ durable i here. inl (c.write_at.ensures.stale i here)

pub returns-clause-durable : goal.returns-clause-durable
returns-clause-durable g c =
    on_ok c.sync.result c.sync.ensures.durable (λ durable none.
    subst (λ o. LeavesFile o (g.D.Device.may_leave c.sync.new.self)) (sym c.sync.ensures.seen)
    (durable (λ i here. none i (c.write_at.ensures.stale i here) (c.in_ok-write_at.ensures.fresh i here))))

pub returns-clause-stale : goal.returns-clause-stale
returns-clause-stale g c =
    on_ok c.sync.result c.sync.ensures.stale (λ stale i here.
    (c.write_at.ensures.stale i (stale i here), c.in_ok-write_at.ensures.fresh i (stale i here)))

pub returns-clause-lost : goal.returns-clause-lost
returns-clause-lost g c = λ durable i here.
    ⊎_elim (λ was. inl (c.write_at.ensures.stale i was)) (λ unsure. inr
    (lost_in_write (g.D.Device.seen c.args.device.now) (g.D.Device.seen c.write_at.new.self)
    (g.D.Device.may_leave c.args.device.now) (g.D.Device.may_leave c.write_at.new.self) durable i unsure
    c.args.at c.args.bytes.now c.requires.place c.in_ok-write_at.ensures.written c.write_at.ensures.crash))
    (c.sync.ensures.lost i here)
