use Rattle.doc_hub_editing.proofs.EditLaws.{told_tags_are_the_pages}
use Rattle.doc_hub_editing.proofs.laws.told_tags_are_the_pages.Goals as goal

pub returns : goal.returns
returns c = told_tags_are_the_pages
