use Rattle.std.proofs.Common.{◌≡◌, subst}
use Rattle.std.specs.Prelude.{IfSome, Some}
use Rattle.std.specs.FinMap as map
use Rattle.doc_index.specs.Held.{held, known}
use Rattle.doc_index.proofs.HeldSteps.{in_slot, pair_of}
use Rattle.doc_index.proofs.index.Index.slot.Goals as goal

pub returns-clause-held : goal.returns-clause-held
returns-clause-held g c =
    subst (λ s. IfSome c.get.result (λ page. map.get (held s) (pair_of page.now) ≡ Some (known page.now))) c.self.view_is
    (in_slot c.self.inside.slots.slots c.self.invariant.apart c.args.slot c.get.result c.get.ensures)
