use Rattle.doc_http.proofs.PasswordLemmas.{spelled_in_one_way}
use Rattle.doc_http.proofs.laws.one_spelling.Goals as goal

pub returns : goal.returns
returns c = spelled_in_one_way
