use Rattle.std.proofs.Common.{◌≢◌, ◌+◌, [], inl, inr, ⊎_elim, ◌∙◌, arith}
use Rattle.doc_server_journal.specs.declared.fault.AppendError.TheVariants.{Memory, Failed}
use Rattle.doc_server_journal.proofs.AppendLemmas.{nothing, none_behind, lost_behind, first_place, inside, room_then, after_first, after_second, place, acknowledged}
use Rattle.doc_server_journal.proofs.Moments.{other_error}
use Rattle.doc_server_journal.proofs.journal.Journal.append.Goals as goal
use Rattle.doc_page_parts.proofs.Results.{is_err_on_ok}

-- the reasons differ
failed_not_memory : Failed ≢ Memory
failed_not_memory same = cc

memory_not_failed : Memory ≢ Failed
memory_not_failed same = cc

pub returns-in_err-record-clause-any_moment : goal.returns-in_err-record-clause-any_moment
returns-in_err-record-clause-any_moment g c = λ texts is.
    nothing g.D.Device.seen g.D.Device.may_leave g.D.Device.failed g.D.Device.stale g.D.Device.moment g.D.Device.left_since
    g.met.D.Device.only_now
    c.args.self.now.device c.args.self.now.end c.args.self.now.room c.args.self.now.digest texts c.args.seconds c.args.text.now []
    c.requires.within
    c.requires.plain c.requires.room is

pub returns-in_err-record-clause-acknowledged : goal.returns-in_err-record-clause-acknowledged
returns-in_err-record-clause-acknowledged g c = λ texts is. is_err_on_ok c.from_residual.result _ c.from_residual.ensures.0

pub returns-in_err-record-clause-failed : goal.returns-in_err-record-clause-failed
returns-in_err-record-clause-failed g c =
    other_error c.from_residual.result Memory Failed c.from_residual.ensures.1 failed_not_memory

pub write_and_sync-requires-clause-place : goal.write_and_sync-requires-clause-place
write_and_sync-requires-clause-place g c =
    first_place g.D.Device.seen g.D.Device.may_leave g.D.Device.failed g.D.Device.stale g.D.Device.moment g.D.Device.left_since
    g.met.D.Device.only_now
    c.args.self.now.device c.args.self.now.end c.args.self.now.room c.args.self.now.digest c.requires.open.0 c.args.seconds
    c.args.text.now []
    c.requires.within c.requires.plain c.requires.room
    c.requires.open.1

pub returns-in_err-write_and_sync-clause-any_moment : goal.returns-in_err-write_and_sync-clause-any_moment
returns-in_err-write_and_sync-clause-any_moment g c = λ texts is.
    after_first g.D.Device.seen g.D.Device.may_leave g.D.Device.failed g.D.Device.stale g.D.Device.moment g.D.Device.left_since
    g.met.D.Device.only_now
    c.args.self.now.device c.args.self.now.end c.args.self.now.room c.args.self.now.digest texts c.args.seconds c.args.text.now
    c.get-bytes.result.now
    c.requires.within c.requires.plain c.requires.room is
    (c.get-bytes.ensures ∙ c.in_ok-record.ensures.bytes) c.write_and_sync.new.device c.write_and_sync.ensures.any_moment

pub returns-in_err-write_and_sync-clause-acknowledged : goal.returns-in_err-write_and_sync-clause-acknowledged
returns-in_err-write_and_sync-clause-acknowledged g c = λ texts is.
    is_err_on_ok c.from_residual-in_err-write_and_sync.result _ c.from_residual-in_err-write_and_sync.ensures.0

pub returns-in_err-write_and_sync-clause-memory : goal.returns-in_err-write_and_sync-clause-memory
returns-in_err-write_and_sync-clause-memory g c =
    other_error c.from_residual-in_err-write_and_sync.result Failed Memory c.from_residual-in_err-write_and_sync.ensures.1
    memory_not_failed

pub write_and_sync-requires-2-clause-place : goal.write_and_sync-requires-2-clause-place
write_and_sync-requires-2-clause-place g c =
    place g.D.Device.seen g.D.Device.may_leave g.D.Device.failed g.D.Device.stale g.D.Device.moment g.D.Device.left_since
    g.met.D.Device.only_now
    c.args.self.now.device c.args.self.now.end c.args.self.now.room c.args.self.now.digest c.requires.open.0 c.args.seconds
    c.args.text.now
    c.get-bytes.result.now
    c.requires.within c.requires.plain c.requires.room c.requires.open.1
    (c.get-bytes.ensures ∙ c.in_ok-record.ensures.bytes) c.write_and_sync.new.device c.write_and_sync.ensures.any_moment
    c.in_ok-write_and_sync.ensures.written

pub returns-in_err-write_and_sync-2-clause-any_moment : goal.returns-in_err-write_and_sync-2-clause-any_moment
returns-in_err-write_and_sync-2-clause-any_moment g c = λ texts is.
    after_second g.D.Device.seen g.D.Device.may_leave g.D.Device.failed g.D.Device.stale g.D.Device.moment g.D.Device.left_since
    g.met.D.Device.only_now
    c.args.self.now.device c.args.self.now.end c.args.self.now.room c.args.self.now.digest texts c.args.seconds c.args.text.now
    c.get-bytes.result.now
    c.requires.within c.requires.plain c.requires.room is
    (c.get-bytes.ensures ∙ c.in_ok-record.ensures.bytes) c.write_and_sync.new.device c.write_and_sync.ensures.any_moment
    c.in_ok-write_and_sync.ensures.written
    (c.in_ok-write_and_sync.ensures.durable (λ i was out. is.fresh i was)) c.write_and_sync-2.new.device
    c.write_and_sync-2.ensures.any_moment

pub returns-in_err-write_and_sync-2-clause-acknowledged : goal.returns-in_err-write_and_sync-2-clause-acknowledged
returns-in_err-write_and_sync-2-clause-acknowledged g c = λ texts is.
    is_err_on_ok c.from_residual-in_err-write_and_sync-2.result _ c.from_residual-in_err-write_and_sync-2.ensures.0

pub returns-in_err-write_and_sync-2-clause-memory : goal.returns-in_err-write_and_sync-2-clause-memory
returns-in_err-write_and_sync-2-clause-memory g c =
    other_error c.from_residual-in_err-write_and_sync-2.result Failed Memory c.from_residual-in_err-write_and_sync-2.ensures.1
    memory_not_failed

pub returns-clause-any_moment : goal.returns-clause-any_moment
returns-clause-any_moment g c = λ texts is.
    after_second g.D.Device.seen g.D.Device.may_leave g.D.Device.failed g.D.Device.stale g.D.Device.moment g.D.Device.left_since
    g.met.D.Device.only_now
    c.args.self.now.device c.args.self.now.end c.args.self.now.room c.args.self.now.digest texts c.args.seconds c.args.text.now
    c.get-bytes.result.now
    c.requires.within c.requires.plain c.requires.room is
    (c.get-bytes.ensures ∙ c.in_ok-record.ensures.bytes) c.write_and_sync.new.device c.write_and_sync.ensures.any_moment
    c.in_ok-write_and_sync.ensures.written
    (c.in_ok-write_and_sync.ensures.durable (λ i was out. is.fresh i was)) c.write_and_sync-2.new.device
    c.write_and_sync-2.ensures.any_moment

pub returns-clause-acknowledged : goal.returns-clause-acknowledged
returns-clause-acknowledged g c = λ texts is.
    acknowledged g.D.Device.seen g.D.Device.may_leave g.D.Device.failed g.D.Device.stale g.D.Device.moment g.D.Device.left_since
    g.met.D.Device.only_now
    c.args.self.now.device c.args.self.now.end c.args.self.now.room c.args.self.now.digest texts c.args.seconds c.args.text.now
    c.get-bytes.result.now
    c.requires.within c.requires.plain c.requires.room is
    (c.get-bytes.ensures ∙ c.in_ok-record.ensures.bytes) c.write_and_sync.new.device c.write_and_sync.ensures.any_moment
    c.in_ok-write_and_sync.ensures.written
    (c.in_ok-write_and_sync.ensures.durable (λ i was out. is.fresh i was)) c.write_and_sync-2.new.device
    c.write_and_sync-2.ensures.any_moment
    c.in_ok-write_and_sync-2.ensures.written
    (c.in_ok-write_and_sync-2.ensures.durable (λ i was out. is.fresh i (c.in_ok-write_and_sync.ensures.stale i was).0))
    (λ i was. is.fresh i (c.in_ok-write_and_sync.ensures.stale i (c.in_ok-write_and_sync-2.ensures.stale i was).0).0)
    c.in_ok-write_and_sync-2.ensures.cause
    c.in_ok-record.record.digest c.in_ok-record.ensures.digest

pub overflow_sub-self : goal.overflow_sub-self
overflow_sub-self g c =
    inside g.D.Device.seen g.D.Device.may_leave g.D.Device.failed g.D.Device.stale g.D.Device.moment g.D.Device.left_since
    g.met.D.Device.only_now
    c.args.self.now.device c.args.self.now.end c.args.self.now.room c.args.self.now.digest c.requires.open.0 c.args.seconds
    c.args.text.now
    c.get-bytes.result.now
    c.requires.within c.requires.plain c.requires.room c.requires.open.1
    (c.get-bytes.ensures ∙ c.in_ok-record.ensures.bytes)

pub returns-clause-room : goal.returns-clause-room
returns-clause-room g c =
    room_then g.D.Device.seen g.D.Device.may_leave g.D.Device.failed g.D.Device.stale g.D.Device.moment g.D.Device.left_since
    g.met.D.Device.only_now
    c.args.self.now.device c.args.self.now.end c.args.self.now.room c.args.self.now.digest c.requires.open.0 c.args.seconds
    c.args.text.now
    c.get-bytes.result.now
    c.requires.within c.requires.plain c.requires.room c.requires.open.1
    (c.get-bytes.ensures ∙ c.in_ok-record.ensures.bytes)

pub returns-in_err-record-clause-stale : goal.returns-in_err-record-clause-stale
returns-in_err-record-clause-stale g c = λ texts is.
    none_behind g.D.Device.seen g.D.Device.may_leave g.D.Device.failed g.D.Device.stale g.D.Device.moment g.D.Device.left_since
    g.met.D.Device.only_now
    c.args.self.now.device c.args.self.now.end c.args.self.now.room c.args.self.now.digest texts c.args.seconds c.args.text.now []
    c.requires.within c.requires.plain c.requires.room is

pub returns-in_err-write_and_sync-clause-stale : goal.returns-in_err-write_and_sync-clause-stale
returns-in_err-write_and_sync-clause-stale g c = λ texts is.
    lost_behind g.D.Device.seen g.D.Device.may_leave g.D.Device.failed g.D.Device.stale g.D.Device.moment g.D.Device.left_since
    g.met.D.Device.only_now
    c.args.self.now.device c.args.self.now.end c.args.self.now.room c.args.self.now.digest texts c.args.seconds c.args.text.now []
    c.requires.within c.requires.plain c.requires.room is (g.D.Device.stale c.write_and_sync.new.device)
    (c.args.self.now.end + 1) (omega arith) (c.write_and_sync.ensures.lost is.durable)

pub returns-in_err-write_and_sync-2-clause-stale : goal.returns-in_err-write_and_sync-2-clause-stale
returns-in_err-write_and_sync-2-clause-stale g c = λ texts is.
    lost_behind g.D.Device.seen g.D.Device.may_leave g.D.Device.failed g.D.Device.stale g.D.Device.moment g.D.Device.left_since
    g.met.D.Device.only_now
    c.args.self.now.device c.args.self.now.end c.args.self.now.room c.args.self.now.digest texts c.args.seconds c.args.text.now []
    c.requires.within c.requires.plain c.requires.room is (g.D.Device.stale c.write_and_sync-2.new.device)
    c.args.self.now.end (omega arith) (λ i here.
    ⊎_elim (λ was. inl (c.in_ok-write_and_sync.ensures.stale i was).0) (λ place. inr place)
    (c.write_and_sync-2.ensures.lost (c.in_ok-write_and_sync.ensures.durable (λ k was out. is.fresh k was)) i here))

pub returns-clause-stale : goal.returns-clause-stale
returns-clause-stale g c = λ texts is i here.
    absurd (is.fresh i (c.in_ok-write_and_sync.ensures.stale i (c.in_ok-write_and_sync-2.ensures.stale i here).0).0)
