use Rattle.doc_http_targets.proofs.Fronts.{stripped}
use Rattle.doc_http_targets.proofs.origin_form.after.Goals as goal

pub returns : goal.returns
returns c = stripped c.args.front.now c.args.path.now c.strip_prefix.result c.strip_prefix.ensures.cases
