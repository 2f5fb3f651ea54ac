use Rattle.doc_http_bodies.proofs.LengthLemmas.{no_longer}
use Rattle.doc_http_bodies.proofs.laws.a_body_is_within_the_limit.Goals as goal

pub returns : goal.returns
returns c = no_longer
