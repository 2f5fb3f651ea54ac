use Rattle.std.proofs.Common.{string_bytes, take}
use Rattle.toml.specs.View.{table_view}
use Rattle.doc_server_lint.specs.Reports.{IsReport}
use Rattle.doc_server_lint.proofs.report.report.Given as goal

-- the report of the findings so far
abbrev pub invariant-loop-finding : goal.invariant-loop-finding
invariant-loop-finding l = IsReport l.file l.text (table_view l.document) (take l.finding-index l.findings) (string_bytes l.out)
