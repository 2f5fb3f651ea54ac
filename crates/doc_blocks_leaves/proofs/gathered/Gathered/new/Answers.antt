use Rattle.std.proofs.Common.{chars, ap, ◌∙◌}
use Rattle.std.proofs.lemmas.Str.{chars-nil}
use Rattle.doc_blocks_leaves.proofs.gathered.Gathered.new.Goals as goal

pub returns-clause-all : goal.returns-clause-all
returns-clause-all c = ap chars c.new.ensures.bytes ∙ chars-nil

pub returns-clause-kept : goal.returns-clause-kept
returns-clause-kept c = chars-nil
