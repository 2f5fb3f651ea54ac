use Rattle.std.proofs.Common.{sym}
use Rattle.std.proofs.lemmas.Result.{err_from_is_err_and}
use Rattle.doc_server.proofs.ExampleSteps.{ended_sent}
use Rattle.doc_server.proofs.examples.read_line.Goals as goal

pub returns-in_err-read-2-clause-fault : goal.returns-in_err-read-2-clause-fault
returns-in_err-read-2-clause-fault g c =
    let p = err_from_is_err_and c.from_residual-in_err-read-2.result c.from_residual-in_err-read-2.ensures.1 in
    rw (p.1, p.2) (ended_sent _ _ c.args.count.now _ _ (sym c.in-Some.ensures) c.in_ok-compare.ensures.sent)
