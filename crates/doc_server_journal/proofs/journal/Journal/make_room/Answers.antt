use Rattle.std.proofs.Common.{arith}
use Rattle.doc_server_journal.proofs.RoomLemmas.{after_growth, lost_behind, open_still}
use Rattle.doc_server_journal.proofs.journal.Journal.make_room.Goals as goal

pub returns-in_err-added-clause-any_moment : goal.returns-in_err-added-clause-any_moment
returns-in_err-added-clause-any_moment g c = λ texts is.
    after_growth g.D.Device.seen g.D.Device.may_leave g.D.Device.failed g.D.Device.stale g.D.Device.moment g.D.Device.left_since
    c.args.self.now.device c.args.self.now.end c.args.self.now.room c.args.self.now.digest texts is
    c.grow_and_sync.new.device _ c.grow_and_sync.ensures.any_moment

pub returns-clause-open : goal.returns-clause-open
returns-clause-open g c = λ texts is.
    open_still g.D.Device.seen g.D.Device.may_leave g.D.Device.failed g.D.Device.stale g.D.Device.moment g.D.Device.left_since
    c.args.self.now.device c.args.self.now.end c.args.self.now.room c.args.self.now.digest texts is
    c.grow_and_sync.new.device c.in_ok-added.added c.in_ok-added.ensures.grown
    (c.in_ok-added.ensures.durable is.fresh) (λ i was. is.fresh i (c.in_ok-added.ensures.stale i was)) c.in_ok-added.ensures.cause
    (omega (arith, c.in_ok-added.ensures.most, c.if-self-gt-MOST_BYTES.false, c.if-room-gt-MOST_BYTES.false, c.if-room-self.false))

pub returns-clause-any_moment : goal.returns-clause-any_moment
returns-clause-any_moment g c = λ texts is.
    after_growth g.D.Device.seen g.D.Device.may_leave g.D.Device.failed g.D.Device.stale g.D.Device.moment g.D.Device.left_since
    c.args.self.now.device c.args.self.now.end c.args.self.now.room c.args.self.now.digest texts is
    c.grow_and_sync.new.device _ c.grow_and_sync.ensures.any_moment

pub returns-in_err-added-clause-stale : goal.returns-in_err-added-clause-stale
returns-in_err-added-clause-stale g c = λ texts is.
    lost_behind g.D.Device.seen g.D.Device.may_leave g.D.Device.failed g.D.Device.stale g.D.Device.moment g.D.Device.left_since
    c.args.self.now.device c.args.self.now.end c.args.self.now.room c.args.self.now.digest texts is
    c.grow_and_sync.new.device (c.grow_and_sync.ensures.lost is.durable)

pub returns-clause-stale : goal.returns-clause-stale
returns-clause-stale g c = λ texts is.
    lost_behind g.D.Device.seen g.D.Device.may_leave g.D.Device.failed g.D.Device.stale g.D.Device.moment g.D.Device.left_since
    c.args.self.now.device c.args.self.now.end c.args.self.now.room c.args.self.now.digest texts is
    c.grow_and_sync.new.device (c.grow_and_sync.ensures.lost is.durable)
