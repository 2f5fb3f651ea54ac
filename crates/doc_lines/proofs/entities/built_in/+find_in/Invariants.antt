use Rattle.std.proofs.Common.{length}
use Rattle.doc_lines.proofs.entities.built_in.+find_in.Given as goal

abbrev pub decreases-find_in : goal.decreases-find_in
decreases-find_in l = length l.rows.now
