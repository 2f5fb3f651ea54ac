use Rattle.std.proofs.Common.{◌∙◌, ap}
use Rattle.doc_links_names.specs.Names.{number_of}
use Rattle.doc_links_names.proofs.Numberings.{below_end}
use Rattle.doc_links_names.proofs.names.Names.bound.Goals as goal

pub returns-clause-below : goal.returns-clause-below
returns-clause-below c = λ text n at.
    below_end c.self.inside.names c.self.inside.taken c.self.invariant c.capacity.result c.capacity.ensures.slots text n
    (ap (λ names. number_of names text) c.self.view_is ∙ at)
