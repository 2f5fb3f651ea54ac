use Rattle.std.proofs.Common.{[]}
use Rattle.doc_server_script.specs.Compactions.{compacted}
use Rattle.doc_server_restore.proofs.compact.compact.Goals as goal

pub returns : goal.returns
unfolding compacted
returns g c = c.finish.ensures _ (c.in_ok-write_pages.ensures _ (c.in_ok-write_removals.ensures [] c.in_ok-writer.ensures))
