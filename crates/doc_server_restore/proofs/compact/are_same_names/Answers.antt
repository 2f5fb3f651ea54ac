use Rattle.std.proofs.Common.{◌∙◌}
use Rattle.doc_server_restore.proofs.SameSteps.{texts_alike}
use Rattle.doc_server_restore.proofs.compact.are_same_names.Goals as goal

pub returns : goal.returns
returns c = c.eq.ensures ∙ texts_alike c.args.names.now c.args.others.now
