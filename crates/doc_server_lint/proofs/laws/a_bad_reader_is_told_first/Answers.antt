use Rattle.doc_server_lint.proofs.FirstRows.{bad_row_is_told}
use Rattle.doc_server_lint.proofs.laws.a_bad_reader_is_told_first.Goals as goal

pub returns : goal.returns
returns c = bad_row_is_told
