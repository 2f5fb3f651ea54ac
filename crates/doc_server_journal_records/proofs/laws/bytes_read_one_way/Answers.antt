use Rattle.doc_server_journal_records.proofs.LawLemmas.{reads_one_way}
use Rattle.doc_server_journal_records.proofs.laws.bytes_read_one_way.Goals as goal

pub returns : goal.returns
returns c = reads_one_way
