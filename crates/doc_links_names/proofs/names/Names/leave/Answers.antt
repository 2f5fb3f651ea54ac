use Rattle.std.proofs.Common.{ap, subst, sym, ◌∙◌}
use Rattle.doc_links_names.specs.Names.{AddsNothing, KeepsOthers, KeepsOtherTexts, uses, without_use}
use Rattle.doc_links_names.specs.NameSteps.{IsNumbering}
use Rattle.doc_links_names.proofs.Numberings.{freed_numbering, kept_numbering}
use Rattle.doc_links_names.proofs.Uses.{left_adds, left_gone, left_keeps, left_keeps_texts}
use Rattle.doc_links_names.proofs.names.Names.leave.Goals as goal

pub invariant_of-self : goal.invariant_of-self
invariant_of-self c =
    subst (λ m. IsNumbering m c.try_remove.new.self) (sym c.take.ensures.rest)
    (freed_numbering c.self.inside.names c.self.inside.taken c.self.invariant c.args.text.now c.args.slot c.in-Some.number
    c.try_remove.new.self (sym c.in-Some.ensures.freed) c.try_remove.ensures.updates)

pub invariant_of-self-in_default : goal.invariant_of-self-in_default
invariant_of-self-in_default c =
    subst (λ m. IsNumbering m c.self.inside.taken) (sym c.take.ensures.rest)
    (kept_numbering c.self.inside.names c.self.inside.taken c.self.invariant c.args.text.now c.args.slot
    (sym c.in_default.ensures.freed))

pub returns-in-Some-clause-kept : goal.returns-in-Some-clause-kept
returns-in-Some-clause-kept c =
    subst (λ m. KeepsOthers c.args.slot m c.take.new.self) c.self.view_is
    (subst (λ m. KeepsOthers c.args.slot c.self.inside.names m) (sym c.take.ensures.rest)
    (left_keeps c.self.inside.names c.args.text.now c.args.slot))

pub returns-in-Some-clause-others : goal.returns-in-Some-clause-others
returns-in-Some-clause-others c =
    subst (λ m. KeepsOtherTexts c.args.text.now m c.take.new.self) c.self.view_is
    (subst (λ m. KeepsOtherTexts c.args.text.now c.self.inside.names m) (sym c.take.ensures.rest)
    (left_keeps_texts c.self.inside.names c.args.text.now c.args.slot))

pub returns-in_default-clause-kept : goal.returns-in_default-clause-kept
returns-in_default-clause-kept c =
    subst (λ m. KeepsOthers c.args.slot m c.take.new.self) c.self.view_is
    (subst (λ m. KeepsOthers c.args.slot c.self.inside.names m) (sym c.take.ensures.rest)
    (left_keeps c.self.inside.names c.args.text.now c.args.slot))

pub returns-in_default-clause-others : goal.returns-in_default-clause-others
returns-in_default-clause-others c =
    subst (λ m. KeepsOtherTexts c.args.text.now m c.take.new.self) c.self.view_is
    (subst (λ m. KeepsOtherTexts c.args.text.now c.self.inside.names m) (sym c.take.ensures.rest)
    (left_keeps_texts c.self.inside.names c.args.text.now c.args.slot))

pub returns-in-Some-clause-gone : goal.returns-in-Some-clause-gone
returns-in-Some-clause-gone c =
    ap (λ m. uses m c.args.text.now c.args.slot) c.take.ensures.rest ∙ left_gone c.self.inside.names c.args.text.now c.args.slot

pub returns-in-Some-clause-fewer : goal.returns-in-Some-clause-fewer
returns-in-Some-clause-fewer c =
    subst (λ m. AddsNothing m c.take.new.self) c.self.view_is
    (subst (λ m. AddsNothing c.self.inside.names m) (sym c.take.ensures.rest)
    (left_adds c.self.inside.names c.args.text.now c.args.slot))

pub returns-in-Some-clause-rest : goal.returns-in-Some-clause-rest
returns-in-Some-clause-rest c =
    c.take.ensures.rest ∙ ap (λ m. without_use m c.args.text.now c.args.slot) c.self.view_is

pub returns-in_default-clause-gone : goal.returns-in_default-clause-gone
returns-in_default-clause-gone c =
    ap (λ m. uses m c.args.text.now c.args.slot) c.take.ensures.rest ∙ left_gone c.self.inside.names c.args.text.now c.args.slot

pub returns-in_default-clause-fewer : goal.returns-in_default-clause-fewer
returns-in_default-clause-fewer c =
    subst (λ m. AddsNothing m c.take.new.self) c.self.view_is
    (subst (λ m. AddsNothing c.self.inside.names m) (sym c.take.ensures.rest)
    (left_adds c.self.inside.names c.args.text.now c.args.slot))

pub returns-in_default-clause-rest : goal.returns-in_default-clause-rest
returns-in_default-clause-rest c =
    c.take.ensures.rest ∙ ap (λ m. without_use m c.args.text.now c.args.slot) c.self.view_is
