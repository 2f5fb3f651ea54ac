use Rattle.doc_index_tables.proofs.CutSteps.{counted}
use Rattle.doc_index_tables.proofs.blocks.Blocks.len.Goals as goal

pub returns : goal.returns
returns c = counted c.self.inside.blocks.items c.self.inside.count c.args.self.now c.self.invariant c.self.view_is
