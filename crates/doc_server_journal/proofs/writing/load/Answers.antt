use Rattle.doc_server_journal.proofs.Moments.{one_call}
use Rattle.doc_server_journal.proofs.writing.load.Goals as goal

pub returns-clause-any_moment : goal.returns-clause-any_moment
returns-clause-any_moment g c =
    one_call g.D.Device.moment g.D.Device.left_since g.D.Device.may_leave g.met.D.Device.only_now c.args.device.now
    c.read_whole.new.self (g.D.Device.may_leave c.args.device.now) c.read_whole.ensures.time (λ x was. was) c.read_whole.ensures.crash
