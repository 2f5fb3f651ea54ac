use Rattle.doc_http.proofs.LawLemmas.{decided_within}
use Rattle.doc_http.proofs.laws.a_request_is_decided_within_the_limit.Goals as goal

pub returns : goal.returns
returns c = decided_within
