use Rattle.std.proofs.Common.{chars, length}
use denote.Text.{Utf8}
use denote.Shadow.{shadow}
use Rattle.doc_blocks_starts.proofs.RunLaws.{HasPassed}
use Rattle.doc_blocks_starts.proofs.run.run_of.Given as goal

abbrev pub invariant-characters : goal.invariant-characters
invariant-characters l = record { is_text : shadow (Utf8 l.rest); passed : HasPassed l.c (chars l.text) (chars l.rest) l.count }

abbrev pub decreases-characters : goal.decreases-characters
decreases-characters l = length (chars l.rest)
