use Rattle.std.proofs.Common.{◌∙◌, ap, sym}
use Rattle.std.specs.Prelude.{Some}
use Rattle.doc_index_tables.proofs.PlaceSteps.{got_at, got_none}
use Rattle.doc_index_tables.proofs.block.Block.get.Goals as goal

pub returns-in-Ok : goal.returns-in-Ok
returns-in-Ok c =
    ap (λ entry. Some entry.1) c.at.ensures
    ∙ sym (got_at c.self.inside.entries c.self.invariant c.args.self.now c.self.view_is c.args.number c.in-Ok.at
    c.in-Ok.ensures.within c.in-Ok.ensures.place c.at.result)

pub returns-in-Err : goal.returns-in-Err
returns-in-Err c =
    sym (got_none c.self.inside.entries c.self.invariant c.args.self.now c.self.view_is c.args.number c.in-Err.field-0
    c.in-Err.ensures.within c.in-Err.ensures.place)
