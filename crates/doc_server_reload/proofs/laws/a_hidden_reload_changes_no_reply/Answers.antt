use Rattle.doc_server_reload.proofs.ReplyLaw.{hidden_reloads_change_no_reply}
use Rattle.doc_server_reload.proofs.laws.a_hidden_reload_changes_no_reply.Goals as goal

pub returns : goal.returns
returns c = hidden_reloads_change_no_reply c.answers_are_noninterfering.ensures c.steps_are_noninterfering.ensures
