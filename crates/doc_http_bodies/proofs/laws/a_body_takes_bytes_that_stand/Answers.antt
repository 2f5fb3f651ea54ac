use Rattle.doc_http_bodies.proofs.LawLemmas.{takes_bytes}
use Rattle.doc_http_bodies.proofs.laws.a_body_takes_bytes_that_stand.Goals as goal

pub returns : goal.returns
returns c = takes_bytes
