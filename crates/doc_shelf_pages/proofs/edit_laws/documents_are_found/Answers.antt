use Rattle.doc_shelf_pages.proofs.Documents.{documents_are_found}
use Rattle.doc_shelf_pages.proofs.edit_laws.documents_are_found.Goals as goal

pub returns : goal.returns
returns c = documents_are_found
