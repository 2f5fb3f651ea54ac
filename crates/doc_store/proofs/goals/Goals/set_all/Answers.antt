use Rattle.std.proofs.Common.{◌≡◌, ◌∷◌, ◌++◌, [], map as mapped, ap, sym, ◌∙◌}
use Rattle.doc_store.proofs.SetSteps.{last_copy}
use Rattle.doc_store.specs.AliasSteps.{with_all, with_value}
use Rattle.doc_store.proofs.goals.Goals.set_all.Goals as goal

pub loop-alias-preserved : goal.loop-alias-preserved
loop-alias-preserved c = λ to h.
    let was = c.loop-alias.invariant to h in
    let steps = c.in-Some.ensures.steps in
    let copies : to ∷ mapped (λ _. to) c.next.new.self ≡ c.pop.new.self.items ++ c.in-Some-pop.goal ∷ [] =
    sym (ap (mapped (λ _. to)) steps) ∙ sym was.0 ∙ c.in-Some-pop.ensures.items in
    let last = last_copy to c.next.new.self c.pop.new.self.items c.in-Some-pop.goal copies in (
      last.1,
      ap (λ m. with_all m c.next.new.self to) (c.set.ensures ∙ ap (with_value c.loop-alias.self c.in-Some.alias.now) last.0)
          ∙ ap (λ aliases. with_all c.loop-alias.self aliases to) (sym steps) ∙ was.1,
    )
