use Rattle.doc_store_readers.proofs.ViewLaw.{view_of_view}
use Rattle.doc_store_readers.proofs.laws.the_view_of_a_view_is_the_view.Goals as goal

pub returns : goal.returns
returns c = view_of_view
