use Rattle.std.proofs.Common.{ap, subst, ◌∙◌}
use Rattle.std.specs.Prelude.{Ok, Err, insert}
use Rattle.std.specs.FinMap as map
use Rattle.doc_store.specs.Numbers.{IsPlace, map_of}
use Rattle.doc_store.proofs.RowSteps.{inserted_in, set_in}
use Rattle.doc_store.proofs.numbers.Numbers.insert.Goals as goal

pub invariant_of-self-in_ok-insert_in-in-Err : goal.invariant_of-self-in_ok-insert_in-in-Err
invariant_of-self-in_ok-insert_in-in-Err c =
    rw (c.in_ok-insert_in-in-Err.ensures.paths, c.in_ok-insert_in-in-Err.ensures.numbers, c.in_ok-copy-in-Err.ensures)
    (inserted_in c.self.inside.paths.items c.self.inside.numbers.items c.self.invariant c.args.path.now c.in-Err.at
    (subst (λ ks. IsPlace c.args.path.now ks (Err c.in-Err.at)) c.deref.ensures.value c.in-Err.ensures) c.args.number).0

pub returns-in-Ok-clause-ok : goal.returns-in-Ok-clause-ok
returns-in-Ok-clause-ok c =
    (set_in c.self.inside.paths.items c.self.inside.numbers.items c.self.invariant c.args.path.now c.in-Ok.at
    (subst (λ ks. IsPlace c.args.path.now ks (Ok c.in-Ok.at)) c.deref.ensures.value c.in-Ok.ensures) c.args.number).1
    ∙ ap (λ m. map.insert m c.args.path.now c.args.number) c.self.view_is

pub returns-in_ok-insert_in-in-Err-clause-ok : goal.returns-in_ok-insert_in-in-Err-clause-ok
returns-in_ok-insert_in-in-Err-clause-ok c =
    (λ i. map_of
    ((c.in_ok-insert_in-in-Err.ensures.paths ∙ ap (insert c.self.inside.paths.items c.in-Err.at) c.in_ok-copy-in-Err.ensures) i)
    (c.in_ok-insert_in-in-Err.ensures.numbers i))
    ∙ (inserted_in c.self.inside.paths.items c.self.inside.numbers.items c.self.invariant c.args.path.now c.in-Err.at
    (subst (λ ks. IsPlace c.args.path.now ks (Err c.in-Err.at)) c.deref.ensures.value c.in-Err.ensures) c.args.number).1
    ∙ ap (λ m. map.insert m c.args.path.now c.args.number) c.self.view_is
