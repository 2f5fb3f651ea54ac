use Rattle.doc_server_reload.proofs.ReadLaw.{read_edits_are_edits}
use Rattle.doc_server_reload.proofs.laws.the_edits_that_are_read_are_of_calls.Goals as goal

pub returns : goal.returns
returns c = read_edits_are_edits
