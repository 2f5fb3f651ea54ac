use Rattle.doc_server_journal_records.proofs.LawLemmas.{is_damaged_once}
use Rattle.doc_server_journal_records.proofs.laws.damage_is_at_one_record.Goals as goal

pub returns : goal.returns
returns c = is_damaged_once
