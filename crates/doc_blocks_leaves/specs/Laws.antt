-- One pass over the lines gives the document: lists made, tight or loose marked, blank lines and definitions gone, as if that were
-- done when all lines are there.
use Rattle.std.specs.Prelude.{◌≡◌, ℕ}
use Rattle.doc_rules.specs.Characters.{Text}
use Rattle.doc_rules.specs.Rules.{Rules}
use Rattle.doc_rules.specs.Blocks.{document_within}
use Rattle.doc_blocks_leaves.specs.OpenBlocks.{one_pass}

abbrev pub OnePassSuffices : Type 0
OnePassSuffices = (room : ℕ) (rules : Rules) (text : Text) → one_pass room rules text ≡ document_within room rules text
