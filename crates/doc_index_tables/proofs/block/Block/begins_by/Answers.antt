use Rattle.std.proofs.Common.{◌∙◌, ap, not, sym, ◌==◌}
use Rattle.doc_index_tables.specs.Blocks.{begins_by}
use Rattle.doc_index_tables.proofs.BlockSteps.{begins_empty, begins_first}
use Rattle.doc_index_tables.proofs.PlaceSteps.{entries_are}
use Rattle.doc_index_tables.proofs.block.Block.begins_by.Goals as goal

pub returns-then-len-ne0 : goal.returns-then-len-ne0
returns-then-len-ne0 c =
    begins_first c.args.number c.len.result c.self.inside.entries c.at.result c.len.ensures c.if-len-ne0.true c.at.ensures
    ∙ ap (begins_by c.args.number) (sym (entries_are c.self.inside.entries c.self.invariant c.args.self.now c.self.view_is))

pub returns-else-len-ne0 : goal.returns-else-len-ne0
returns-else-len-ne0 c =
    ap (λ n. not (n == 0)) c.if-len-ne0.false
    ∙ begins_empty c.args.number c.len.result c.self.inside.entries c.len.ensures c.if-len-ne0.false
    ∙ ap (begins_by c.args.number) (sym (entries_are c.self.inside.entries c.self.invariant c.args.self.now c.self.view_is))
