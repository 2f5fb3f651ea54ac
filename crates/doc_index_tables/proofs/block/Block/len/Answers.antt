use Rattle.std.proofs.Common.{◌∙◌, ap, length, sym}
use Rattle.std.specs.FinMap as map
use Rattle.doc_index_tables.proofs.PlaceSteps.{entries_are}
use Rattle.doc_index_tables.proofs.block.Block.len.Goals as goal

pub returns : goal.returns
returns c =
    c.len.ensures
    ∙ sym (map.len-entries c.args.self.now
    ∙ ap length (entries_are c.self.inside.entries c.self.invariant c.args.self.now c.self.view_is))
