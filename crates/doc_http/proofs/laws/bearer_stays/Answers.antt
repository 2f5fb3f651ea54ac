use Rattle.doc_http.proofs.PasswordLemmas.{bearer_goes_first}
use Rattle.doc_http.proofs.laws.bearer_stays.Goals as goal

pub returns : goal.returns
returns c = bearer_goes_first
