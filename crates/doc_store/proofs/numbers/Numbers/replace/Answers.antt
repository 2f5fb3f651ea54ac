use Rattle.std.proofs.Common.{◌≡◌, Bool, true, false, IsTrue, is_some, ap, sym, subst, ◌∙◌}
use Rattle.std.specs.Prelude.{Ok, Err}
use Rattle.std.specs.FinMap as map
use Rattle.doc_store.specs.Numbers.{IsPlace}
use Rattle.doc_store.proofs.RowSteps.{got_none, set_in}
use Rattle.doc_store.proofs.numbers.Numbers.replace.Goals as goal

stands_not : (b : Bool) → IsTrue b → b ≡ false → ⊥
stands_not true stands none = cc
stands_not false stands none = cc

pub returns-in-Ok : goal.returns-in-Ok
returns-in-Ok c =
    (set_in c.self.inside.paths.items c.self.inside.numbers.items c.self.invariant c.args.path.now c.in-Ok.at
    (subst (λ ks. IsPlace c.args.path.now ks (Ok c.in-Ok.at)) c.deref.ensures.value c.in-Ok.ensures) c.args.number).1
    ∙ ap (λ m. map.insert m c.args.path.now c.args.number) c.self.view_is

pub returns-in_default : goal.returns-in_default
returns-in_default c =
    absurd (stands_not _ c.requires (
    ap (λ m. is_some (map.get m c.args.path.now)) (sym c.self.view_is)
    ∙ ap is_some (got_none c.self.inside.paths.items c.self.inside.numbers.items c.self.invariant c.args.path.now c.in_default.field-0
    (subst (λ ks. IsPlace c.args.path.now ks (Err c.in_default.field-0)) c.deref.ensures.value c.in_default.ensures))))
