use Rattle.doc_index_tables.proofs.PlaceSteps.{none_yet}
use Rattle.doc_index_tables.proofs.block.Block.with_capacity.Goals as goal

pub returns : goal.returns
returns c = (none_yet c.in_ok-with_capacity.field-0 c.in_ok-with_capacity.ensures).1
