use Rattle.std.proofs.Common.{◌≡◌, ap, sym, subst, ◌∙◌}
use Rattle.std.specs.Prelude.{Some, None, Ok, Err}
use Rattle.std.specs.FinMap as map
use Rattle.std.proofs.lemmas.Cmp.{nat_list_cmp_total}
use Rattle.std.proofs.lemmas.Map.Lookups.{exact_bytes}
use Rattle.doc_store.specs.Numbers.{IsPlace, map_of}
use Rattle.doc_store.proofs.SumSteps.{none_to_take}
use Rattle.doc_store.proofs.RowSteps.{got_at, got_none, removed_in}
use Rattle.doc_store.proofs.numbers.Numbers.take.Goals as goal

lacks : (c : goal.In_default) → map.get c.args.self.now c.args.path.now ≡ None
lacks c =
    ap (λ m. map.get m c.args.path.now) (sym c.self.view_is)
    ∙ got_none c.self.inside.paths.items c.self.inside.numbers.items c.self.invariant c.args.path.now c.in_default.field-0
    (subst (λ ks. IsPlace c.args.path.now ks (Err c.in_default.field-0)) c.deref.ensures.value c.in_default.ensures)

pub returns-in_default-clause-number : goal.returns-in_default-clause-number
returns-in_default-clause-number c = sym (lacks c)

pub returns-in_default-clause-rest : goal.returns-in_default-clause-rest
returns-in_default-clause-rest c = none_to_take nat_list_cmp_total exact_bytes c.args.self.now c.args.path.now (lacks c)

pub invariant_of-self : goal.invariant_of-self
invariant_of-self c =
    rw (c.remove.ensures.items, c.remove-2.ensures.items)
    (removed_in c.self.inside.paths.items c.self.inside.numbers.items c.self.invariant c.args.path.now c.in-Ok.at
    (subst (λ ks. IsPlace c.args.path.now ks (Ok c.in-Ok.at)) c.deref.ensures.value c.in-Ok.ensures)).0

pub returns-clause-number : goal.returns-clause-number
returns-clause-number c =
    ap Some c.remove-2.ensures.value
    ∙ sym (got_at c.self.inside.paths.items c.self.inside.numbers.items c.self.invariant c.args.path.now c.in-Ok.at
    (subst (λ ks. IsPlace c.args.path.now ks (Ok c.in-Ok.at)) c.deref.ensures.value c.in-Ok.ensures) c.remove-2.result)
    ∙ ap (λ m. map.get m c.args.path.now) c.self.view_is

pub returns-clause-rest : goal.returns-clause-rest
returns-clause-rest c =
    (λ i. map_of (c.remove.ensures.items i) (c.remove-2.ensures.items i))
    ∙ (removed_in c.self.inside.paths.items c.self.inside.numbers.items c.self.invariant c.args.path.now c.in-Ok.at
    (subst (λ ks. IsPlace c.args.path.now ks (Ok c.in-Ok.at)) c.deref.ensures.value c.in-Ok.ensures)).1
    ∙ ap (λ m. map.remove m c.args.path.now) c.self.view_is
