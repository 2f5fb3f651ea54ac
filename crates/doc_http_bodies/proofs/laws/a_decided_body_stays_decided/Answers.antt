use Rattle.doc_http_bodies.proofs.LawLemmas.{stays_decided}
use Rattle.doc_http_bodies.proofs.laws.a_decided_body_stays_decided.Goals as goal

pub returns : goal.returns
returns c = stays_decided
