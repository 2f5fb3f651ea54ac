use Rattle.doc_http.proofs.PasswordLemmas.{bearer_alone_asks}
use Rattle.doc_http.proofs.laws.bearers_are_alone_without_logins.Goals as goal

pub returns : goal.returns
returns c = bearer_alone_asks
