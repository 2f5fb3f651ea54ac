use Rattle.doc_store_readers.proofs.GroupLaws.{same_names}
use Rattle.doc_store_readers.proofs.laws.groups_are_their_names.Goals as goal

pub returns : goal.returns
returns c = same_names
