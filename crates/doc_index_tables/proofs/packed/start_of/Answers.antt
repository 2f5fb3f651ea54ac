use Rattle.std.proofs.Common.{◌∙◌, ap}
use Rattle.doc_index_tables.proofs.PackedSteps.{start_before}
use Rattle.doc_index_tables.proofs.packed.start_of.Goals as goal

pub returns : goal.returns
returns c = ap (λ e. e.0) c.at.ensures ∙ start_before c.args.ends.now c.args.at c.at.result c.if-at-eq0.false c.requires
