use Rattle.doc_server_follow.proofs.LawLemmas.{rests_at_the_end}
use Rattle.doc_server_follow.proofs.laws.a_look_rests_at_the_end.Goals as goal

pub returns : goal.returns
returns c = rests_at_the_end
