use Rattle.doc_http.proofs.TakenLemmas.{takes_bytes}
use Rattle.doc_http.proofs.laws.a_request_takes_bytes.Goals as goal

pub returns : goal.returns
returns c = takes_bytes
