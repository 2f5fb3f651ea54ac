use Rattle.std.proofs.Common.{sym, ◌∙◌}
use Rattle.std.proofs.lemmas.Result.{err_from_is_err_and}
use Rattle.doc_server.proofs.ReportSteps.{checked, cut_off, none_failed}
use Rattle.doc_server.proofs.check.check.Goals as goal

pub returns-in_err-report-clause-writes : goal.returns-in_err-report-clause-writes
returns-in_err-report-clause-writes g c =
    let p = err_from_is_err_and c.from_residual-in_err-report.result c.from_residual-in_err-report.ensures.1 in
    none_failed _ c.from_residual-in_err-report.result p.0 p.1 p.2

pub returns-clause-sent : goal.returns-clause-sent
returns-clause-sent g c =
    checked (g.R.Renderer.page c.args.renderer) (g.R.Renderer.page c.in_ok-hub.hub.0) c.args.config c.args.texts.now c.in_ok-hub.hub.1
    c.args.token.now c.in-Some.report c.get.result.now (g.O.Output.written c.args.output.now)
    (g.O.Output.written c.write_report.new.output) c.write_report.result c.in_ok-hub.ensures.same c.in_ok-hub.ensures.world
    (sym c.in-Some.is ∙ c.in_ok-report.ensures.report) c.get.ensures c.write_report.ensures.sent c.write_report.ensures.status

pub returns-clause-fault : goal.returns-clause-fault
returns-clause-fault g c =
    cut_off (g.R.Renderer.page c.args.renderer) (g.R.Renderer.page c.in_ok-hub.hub.0) c.args.config c.args.texts.now c.in_ok-hub.hub.1
    c.args.token.now c.in-Some.report c.get.result.now (g.O.Output.written c.args.output.now)
    (g.O.Output.written c.write_report.new.output) c.write_report.result c.in_ok-hub.ensures.same c.in_ok-hub.ensures.world
    (sym c.in-Some.is ∙ c.in_ok-report.ensures.report) c.get.ensures c.write_report.ensures.fault
