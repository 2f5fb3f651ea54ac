use Rattle.std.proofs.Common.{◌∙◌, ap, sym}
use Rattle.doc_index_tables.specs.Blocks.{joined}
use Rattle.doc_index_tables.proofs.CutSteps.{all_entries}
use Rattle.doc_index_tables.proofs.blocks.Blocks.iter.Goals as goal

pub returns : goal.returns
returns c =
    c.new.ensures ∙ ap joined c.deref.ensures.value
    ∙ sym (all_entries c.self.inside.blocks.items c.self.inside.count c.args.self.now c.self.invariant c.self.view_is)
