use Rattle.doc_server_arguments.proofs.Fronts.{stripped}
use Rattle.doc_server_arguments.proofs.address.behind.Goals as goal

pub returns : goal.returns
returns c = stripped c.args.front.now c.args.word.now c.strip_prefix.result c.strip_prefix.ensures.cases
