use Rattle.doc_server_journal.proofs.RepairLemmas.{last_inside}
use Rattle.doc_server_journal.proofs.repair.end_again.Goals as goal

pub overflow_sub-found : goal.overflow_sub-found
overflow_sub-found c = last_inside c.args.bytes.now c.args.found.now c.requires.found
