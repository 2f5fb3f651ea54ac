use Rattle.doc_shelf_pages.proofs.KeptEdits.{edits_of_kept}
use Rattle.doc_shelf_pages.proofs.edit_laws.edits_of_kept.Goals as goal

pub returns : goal.returns
returns c = edits_of_kept
