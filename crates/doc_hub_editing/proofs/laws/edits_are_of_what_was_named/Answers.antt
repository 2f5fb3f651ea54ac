use Rattle.doc_hub_editing.proofs.EditLaws.{edits_are_of_what_was_named}
use Rattle.doc_hub_editing.proofs.laws.edits_are_of_what_was_named.Goals as goal

pub returns : goal.returns
returns c = edits_are_of_what_was_named
