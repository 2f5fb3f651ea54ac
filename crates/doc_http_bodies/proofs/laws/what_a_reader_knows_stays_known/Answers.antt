use Rattle.doc_http_bodies.proofs.LawLemmas.{knows_more}
use Rattle.doc_http_bodies.proofs.laws.what_a_reader_knows_stays_known.Goals as goal

pub returns : goal.returns
returns c = knows_more
