use Rattle.doc_store.proofs.SeenLaw.{sees_the_view}
use Rattle.doc_store.proofs.laws.what_is_seen.Goals as goal

pub returns : goal.returns
returns c = sees_the_view
