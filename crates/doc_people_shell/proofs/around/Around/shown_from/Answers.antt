use Rattle.doc_people_shell.proofs.WindowSteps.{first_ones}
use Rattle.doc_people_shell.proofs.around.Around.shown_from.Goals as goal

pub returns : goal.returns
returns c = first_ones c.get-from.result.now c.args.self.now.from c.min.result c.min.ensures c.get-from.ensures
