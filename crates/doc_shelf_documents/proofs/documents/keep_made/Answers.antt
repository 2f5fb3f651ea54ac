use Rattle.doc_shelf_documents.proofs.DocumentSteps.{kept_or_not}
use Rattle.doc_shelf_documents.proofs.documents.keep_made.Goals as goal

pub returns-clause-cache : goal.returns-clause-cache
returns-clause-cache c = kept_or_not c.keep.result c.keep.ensures.kept c.keep.ensures.dropped
