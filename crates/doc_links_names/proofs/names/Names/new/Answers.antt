use Rattle.std.proofs.Common.{subst, sym}
use Rattle.doc_links_names.specs.NameSteps.{IsNumbering}
use Rattle.doc_links_names.proofs.Numberings.{nothing_numbered}
use Rattle.doc_links_names.proofs.names.Names.new.Goals as goal

pub invariant_of-result : goal.invariant_of-result
invariant_of-result c = subst (λ m. IsNumbering m c.new-2.result) (sym c.new.ensures) (nothing_numbered c.new-2.result)
