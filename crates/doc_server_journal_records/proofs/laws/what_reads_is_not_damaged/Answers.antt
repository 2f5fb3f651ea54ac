use Rattle.doc_server_journal_records.proofs.LawLemmas.{read_is_not_damaged}
use Rattle.doc_server_journal_records.proofs.laws.what_reads_is_not_damaged.Goals as goal

pub returns : goal.returns
returns c = read_is_not_damaged
