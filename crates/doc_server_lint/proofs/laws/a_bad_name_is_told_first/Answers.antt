use Rattle.doc_server_lint.proofs.FirstNames.{bad_name_is_told}
use Rattle.doc_server_lint.proofs.laws.a_bad_name_is_told_first.Goals as goal

pub returns : goal.returns
returns c = bad_name_is_told
