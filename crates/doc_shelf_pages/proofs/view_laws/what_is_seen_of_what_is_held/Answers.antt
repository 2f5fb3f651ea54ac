use Rattle.doc_shelf_pages.proofs.ViewAnswers.{held_is_seen}
use Rattle.doc_shelf_pages.proofs.view_laws.what_is_seen_of_what_is_held.Goals as goal

pub returns : goal.returns
returns c = held_is_seen
