use Rattle.std.proofs.Common.{◌∙◌}
use Rattle.doc_store.proofs.SetSteps.{keys_are}
use Rattle.doc_store.proofs.path_set.PathSet.iter.Goals as goal

pub returns : goal.returns
returns c = c.keys.ensures.rest ∙ keys_are c.self.inside.paths.entries c.args.self.now c.keys.ensures.ordered c.self.view_is
