use Rattle.doc_shelf_pages.proofs.Documents.{caches_have_documents}
use Rattle.doc_shelf_pages.proofs.edit_laws.caches_have_documents.Goals as goal

pub returns : goal.returns
returns c = caches_have_documents
