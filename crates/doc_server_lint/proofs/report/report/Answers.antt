use Rattle.std.proofs.Common.{string_bytes}
use Rattle.toml.specs.View.{table_view}
use Rattle.doc_server_lint.proofs.ReportSteps.{line_more}
use Rattle.doc_server_lint.proofs.report.report.Goals as goal

pub loop-finding-preserved : goal.loop-finding-preserved
loop-finding-preserved c =
    line_more c.args.file.now c.args.text.now (table_view c.args.document.now) c.args.findings.now c.loop-finding.finding-index
    (string_bytes c.loop-finding.out) (string_bytes c.push_told.new.out) c.finding-item.result c.line_of_place-line.result
    c.loop-finding-test.true c.finding-item.is c.loop-finding.invariant c.line_of_place-line.ensures c.in_ok-push_told.ensures
