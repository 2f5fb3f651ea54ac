use Rattle.doc_server_follow.proofs.LawLemmas.{stays_in_order}
use Rattle.doc_server_follow.proofs.laws.what_is_taken_stays_in_order.Goals as goal

pub returns : goal.returns
returns c = stays_in_order
