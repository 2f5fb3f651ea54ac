use Rattle.doc_server_listen.proofs.OnlyReads.{steps_that_read_leave_the_site}
use Rattle.doc_server_listen.proofs.laws.steps_that_read_leave_the_site.Goals as goal

pub returns : goal.returns
returns c = steps_that_read_leave_the_site
