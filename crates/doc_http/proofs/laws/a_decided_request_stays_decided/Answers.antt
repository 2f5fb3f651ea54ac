use Rattle.doc_http.proofs.LawLemmas.{stays_decided}
use Rattle.doc_http.proofs.laws.a_decided_request_stays_decided.Goals as goal

pub returns : goal.returns
returns c = stays_decided
