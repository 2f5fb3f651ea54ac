use Rattle.doc_http_bodies.proofs.LawLemmas.{decided_within}
use Rattle.doc_http_bodies.proofs.laws.a_body_is_decided_within_the_limit.Goals as goal

pub returns : goal.returns
returns c = decided_within
