use Rattle.std.proofs.Common.{map as mapped}
use Rattle.doc_store.proofs.SetSteps.{said_of_keys}
use Rattle.doc_store.proofs.path_set.PathSet.copies_of.Goals as goal

pub returns : goal.returns
returns c =
    said_of_keys c.copies_of.result (λ copies. copies.items) (λ keys. mapped (λ _. c.args.other.now) keys) c.self.inside.paths.entries
    c.args.self.now c.self.view_is c.copies_of.ensures.ordered c.copies_of.ensures.copies
