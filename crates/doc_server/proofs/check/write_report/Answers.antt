use Rattle.std.proofs.lemmas.Result.{err_from_is_err_and}
use Rattle.doc_server.proofs.ReportSteps.{unflushed}
use Rattle.doc_server.proofs.check.write_report.Goals as goal

pub returns-in_err-flush-clause-fault : goal.returns-in_err-flush-clause-fault
returns-in_err-flush-clause-fault g c =
    let p = err_from_is_err_and c.from_residual-in_err-flush.result c.from_residual-in_err-flush.ensures.1 in
    rw (p.1, p.2) (unflushed _ _ _ c.as_bytes.result.now c.args.report.now c.in_err-flush.field-0.0 c.in_err-flush.ensures.fault
    c.as_bytes.ensures.value c.in_ok-send.ensures.sent c.in_err-flush.ensures.same)
