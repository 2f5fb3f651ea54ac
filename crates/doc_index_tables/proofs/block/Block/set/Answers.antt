use Rattle.std.proofs.Common.{◌∙◌, ap, subst, sym}
use Rattle.std.specs.FinMap as map
use Rattle.doc_index_tables.proofs.PlaceSteps.{IsInOrder, either_way, inserted_in, set_in}
use Rattle.doc_index_tables.proofs.TableSteps.{on_ok}
use Rattle.doc_index_tables.proofs.block.Block.set.Goals as goal

pub invariant_of-self : goal.invariant_of-self
invariant_of-self c =
    either_way c.set.result c.set.ensures.ok c.set.ensures.err
    (λ is. subst IsInOrder (sym is) (set_in c.self.inside.entries c.self.invariant c.args.self.now c.self.view_is
    c.args.number c.in-Ok.at c.in-Ok.ensures.within c.in-Ok.ensures.place c.args.value).0)
    (λ same. subst IsInOrder (sym same) c.self.invariant)

pub invariant_of-self-in-Err : goal.invariant_of-self-in-Err
invariant_of-self-in-Err c =
    either_way c.insert.result c.insert.ensures.ok c.insert.ensures.err
    (λ is. subst IsInOrder (sym is) (inserted_in c.self.inside.entries c.self.invariant c.args.self.now c.self.view_is
    c.args.number c.in-Err.at c.in-Err.ensures.within c.in-Err.ensures.place c.args.value).0)
    (λ same. subst IsInOrder (sym same) c.self.invariant)

pub returns-in-Ok-clause-ok : goal.returns-in-Ok-clause-ok
returns-in-Ok-clause-ok c =
    on_ok c.set.result (λ is. ap map.from_sorted is
    ∙ (set_in c.self.inside.entries c.self.invariant c.args.self.now c.self.view_is c.args.number c.in-Ok.at
    c.in-Ok.ensures.within c.in-Ok.ensures.place c.args.value).1) c.set.ensures.ok

pub returns-in-Err-clause-ok : goal.returns-in-Err-clause-ok
returns-in-Err-clause-ok c =
    on_ok c.insert.result (λ is. ap map.from_sorted is
    ∙ (inserted_in c.self.inside.entries c.self.invariant c.args.self.now c.self.view_is c.args.number c.in-Err.at
    c.in-Err.ensures.within c.in-Err.ensures.place c.args.value).1) c.insert.ensures.ok
