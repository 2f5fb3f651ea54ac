use Rattle.std.proofs.Common.{◌∙◌, ap, subst, sym}
use Rattle.std.specs.FinMap as map
use Rattle.doc_index_tables.proofs.PlaceSteps.{IsInOrder, nothing_removed, removed_in}
use Rattle.doc_index_tables.proofs.block.Block.take.Goals as goal

pub invariant_of-self : goal.invariant_of-self
invariant_of-self c =
    subst IsInOrder (sym c.remove.ensures)
    (removed_in c.self.inside.entries c.self.invariant c.args.self.now c.self.view_is c.args.number c.in-Ok.at
    c.in-Ok.ensures.within c.in-Ok.ensures.place).0

pub returns-in-Ok : goal.returns-in-Ok
returns-in-Ok c =
    ap map.from_sorted c.remove.ensures
    ∙ (removed_in c.self.inside.entries c.self.invariant c.args.self.now c.self.view_is c.args.number c.in-Ok.at
    c.in-Ok.ensures.within c.in-Ok.ensures.place).1

pub returns-in_default : goal.returns-in_default
returns-in_default c =
    sym (nothing_removed c.self.inside.entries c.self.invariant c.args.self.now c.self.view_is c.args.number c.in_default.field-0
    c.in_default.ensures.within c.in_default.ensures.place)
