use Rattle.doc_server_journal_records.proofs.TailLemmas.{none_found}
use Rattle.doc_server_journal_records.proofs.reading.is_tail.Goals as goal

pub returns : goal.returns
returns c = none_found c.args.bytes.now c.memchr.result c.is_none.result c.is_none.ensures c.memchr.ensures
