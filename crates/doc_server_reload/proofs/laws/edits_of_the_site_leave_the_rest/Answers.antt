use Rattle.doc_server_reload.proofs.ReplyLaw.{site_edits_leave_the_rest}
use Rattle.doc_server_reload.proofs.laws.edits_of_the_site_leave_the_rest.Goals as goal

pub returns : goal.returns
returns c = site_edits_leave_the_rest
