use Rattle.doc_server_lint.proofs.FirstReaders.{twice_is_told}
use Rattle.doc_server_lint.proofs.laws.a_token_again_is_told_first.Goals as goal

pub returns : goal.returns
returns c = twice_is_told
