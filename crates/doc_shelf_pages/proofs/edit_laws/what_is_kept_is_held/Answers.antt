use Rattle.doc_shelf_pages.proofs.KeptEdits.{what_is_kept_is_held}
use Rattle.doc_shelf_pages.proofs.edit_laws.what_is_kept_is_held.Goals as goal

pub returns : goal.returns
returns c = what_is_kept_is_held
