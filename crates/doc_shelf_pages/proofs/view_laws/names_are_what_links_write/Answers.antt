use Rattle.doc_shelf_pages.proofs.KnownLaws.{names_of_targets}
use Rattle.doc_shelf_pages.proofs.view_laws.names_are_what_links_write.Goals as goal

pub returns : goal.returns
returns c = names_of_targets
