use Rattle.doc_index_tables.proofs.PlaceSteps.{none_yet}
use Rattle.doc_index_tables.proofs.block.Block.new.Goals as goal

pub returns : goal.returns
returns c = (none_yet c.new.result c.new.ensures).1
