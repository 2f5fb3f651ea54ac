use Rattle.doc_server_follow.proofs.LawLemmas.{grown_never_goes_back}
use Rattle.doc_server_follow.proofs.laws.a_grown_journal_never_goes_back.Goals as goal

pub returns : goal.returns
returns c = grown_never_goes_back
