use Rattle.doc_server_lint_faults.proofs.row_line.line_in.Goals as goal

pub returns : goal.returns
returns c = (c.in-Some.span.begin, c.in-Some.span.end, c.in-Some.ensures.place, c.line_behind.ensures)
