use Rattle.doc_server_journal_records.proofs.LawLemmas.{written_is_read}
use Rattle.doc_server_journal_records.proofs.laws.what_was_written_is_read.Goals as goal

pub returns : goal.returns
returns c = written_is_read
