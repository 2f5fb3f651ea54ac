use Rattle.doc_server_restore.proofs.CompactionLaw.{compaction_is_restored}
use Rattle.doc_server_restore.proofs.laws.a_compaction_is_restored.Goals as goal

pub returns : goal.returns
returns c = compaction_is_restored
