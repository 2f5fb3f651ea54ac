use Rattle.std.proofs.Common.{[], refl}
use Rattle.doc_index_tables.proofs.PlaceSteps.{none_yet}
use Rattle.doc_index_tables.proofs.single.Single.new.Goals as goal

pub returns : goal.returns
returns c = (none_yet [] refl).1
