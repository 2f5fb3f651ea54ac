use Rattle.std.proofs.Common.{◌∙◌, ap}
use Rattle.std.proofs.lemmas.Result.{err_from_is_err_and}
use Rattle.doc_server.specs.Examples.{count_line}
use Rattle.doc_server.proofs.ExampleSteps.{examples_stopped, count_unmade, count_cut, report_unflushed}
use Rattle.doc_server.proofs.examples.report_on.Goals as goal

pub returns-in_err-count-clause-fault : goal.returns-in_err-count-clause-fault
returns-in_err-count-clause-fault g c =
    let p = err_from_is_err_and c.from_residual.result c.from_residual.ensures.1 in
    rw (p.1, p.2) (examples_stopped _ _ _ _ c.in_err-count.field-0.0 c.in_err-count.ensures.fault)

pub returns-in_err-line-clause-fault : goal.returns-in_err-line-clause-fault
returns-in_err-line-clause-fault g c =
    let p = err_from_is_err_and c.from_residual-in_err-line.result c.from_residual-in_err-line.ensures.1 in
    rw (p.1) (count_unmade _ _ _ _ _ p.2 c.in_ok-count.ensures.sent)

pub returns-in_err-send-clause-fault : goal.returns-in_err-send-clause-fault
returns-in_err-send-clause-fault g c =
    let p = err_from_is_err_and c.from_residual-in_err-send.result c.from_residual-in_err-send.ensures.1 in
    let shown = c.as_bytes.ensures.value ∙ c.in_ok-line.ensures ∙ ap count_line c.in_ok-count.ensures.count in
    rw (p.1, p.2) (count_cut _ _ _ _ _ c.as_bytes.result.now c.in_err-send.field-0.0 c.in_err-send.ensures.fault shown
    c.in_ok-count.ensures.sent c.in_err-send.ensures.cut)

pub returns-in_err-flush-clause-fault : goal.returns-in_err-flush-clause-fault
returns-in_err-flush-clause-fault g c =
    let p = err_from_is_err_and c.from_residual-in_err-flush.result c.from_residual-in_err-flush.ensures.1 in
    let shown = c.as_bytes.ensures.value ∙ c.in_ok-line.ensures ∙ ap count_line c.in_ok-count.ensures.count in
    rw (p.1, p.2) (report_unflushed _ _ _ _ _ _ c.as_bytes.result.now c.in_err-flush.field-0.0 c.in_err-flush.ensures.fault shown
    c.in_ok-count.ensures.sent c.in_ok-send.ensures.sent c.in_err-flush.ensures.same)
