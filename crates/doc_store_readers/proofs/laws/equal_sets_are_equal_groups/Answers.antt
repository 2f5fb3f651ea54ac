use Rattle.doc_store_readers.proofs.GroupLaws.{equal_sets}
use Rattle.doc_store_readers.proofs.laws.equal_sets_are_equal_groups.Goals as goal

pub returns : goal.returns
returns c = equal_sets
