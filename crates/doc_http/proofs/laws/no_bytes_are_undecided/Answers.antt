use Rattle.doc_http.proofs.TakenLemmas.{empty_is_undecided}
use Rattle.doc_http.proofs.laws.no_bytes_are_undecided.Goals as goal

pub returns : goal.returns
returns c = empty_is_undecided
