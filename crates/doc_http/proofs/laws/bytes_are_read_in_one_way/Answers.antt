use Rattle.doc_http.proofs.LawLemmas.{read_in_one_way}
use Rattle.doc_http.proofs.laws.bytes_are_read_in_one_way.Goals as goal

pub returns : goal.returns
returns c = read_in_one_way
