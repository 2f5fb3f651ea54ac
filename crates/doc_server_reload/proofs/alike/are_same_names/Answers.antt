use Rattle.std.proofs.Common.{◌∙◌}
use Rattle.doc_server_reload.proofs.AlikeSteps.{texts_alike}
use Rattle.doc_server_reload.proofs.alike.are_same_names.Goals as goal

pub returns : goal.returns
returns c = c.eq.ensures ∙ texts_alike c.args.names.now c.args.others.now
