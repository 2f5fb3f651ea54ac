use Rattle.doc_store_readers.proofs.FindLaws.{others_stay}
use Rattle.doc_store_readers.proofs.laws.other_readers_stay.Goals as goal

pub returns : goal.returns
returns c = others_stay
