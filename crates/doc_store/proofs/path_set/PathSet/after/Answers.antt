use Rattle.std.proofs.Common.{◌∷◌}
use Rattle.doc_store.proofs.SetSteps.{said_of_keys}
use Rattle.doc_store_readers.specs.Groups.{texts_of}
use Rattle.doc_store.proofs.path_set.PathSet.after.Goals as goal

pub returns : goal.returns
returns c =
    said_of_keys c.after.result (λ names. texts_of names.items) (λ keys. c.args.first.now ∷ keys) c.self.inside.paths.entries
    c.args.self.now c.self.view_is c.after.ensures.ordered c.after.ensures.names
