use Rattle.doc_index_tables.proofs.SingleSteps.{one_entries}
use Rattle.doc_index_tables.proofs.single.Single.entry.Goals as goal

pub returns : goal.returns
returns c = one_entries c.self.inside.entry c.args.self.now c.self.view_is
