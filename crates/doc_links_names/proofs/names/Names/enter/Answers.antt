use Rattle.std.proofs.Common.{◌∙◌, ap, subst, sym}
use Rattle.std.specs.Prelude.{bytes_eq}
use Rattle.doc_links_names.specs.Names.{AddsOnly, Keeps, number_of, uses}
use Rattle.doc_links_names.specs.NameSteps.{IsNumbering, used_by}
use Rattle.doc_links_names.proofs.Numberings.{same_numbering}
use Rattle.doc_links_names.proofs.Uses.{used_adds, used_keeps, used_numbers, used_used}
use Rattle.doc_links_names.proofs.names.Names.enter.Goals as goal

pub invariant_of-self-in-Some : goal.invariant_of-self-in-Some
invariant_of-self-in-Some c =
    subst (λ m. IsNumbering m c.self.inside.taken) (sym c.in_ok-number.ensures.used)
    (same_numbering c.self.inside.names (used_by c.self.inside.names c.args.text.now c.args.slot) c.self.inside.taken
    (used_numbers c.self.inside.names c.args.text.now c.args.slot) c.self.invariant)

pub returns-in-Some-clause-number : goal.returns-in-Some-clause-number
returns-in-Some-clause-number c =
    ap (λ m. number_of m c.args.text.now) c.in_ok-number.ensures.used
    ∙ used_numbers c.self.inside.names c.args.text.now c.args.slot c.args.text.now
    ∙ sym c.in_ok-number.ensures.number ∙ c.in-Some.is

pub returns-in-Some-clause-used : goal.returns-in-Some-clause-used
returns-in-Some-clause-used c =
    ap (λ m. uses m c.args.text.now c.args.slot) c.in_ok-number.ensures.used
    ∙ used_used c.self.inside.names c.args.text.now c.args.slot c.in-Some.number
    (sym c.in_ok-number.ensures.number ∙ c.in-Some.is)

pub returns-in-Some-clause-kept : goal.returns-in-Some-clause-kept
returns-in-Some-clause-kept c =
    subst (λ m. Keeps m c.use_by.new.self) c.self.view_is
    (subst (λ m. Keeps c.self.inside.names m) (sym c.in_ok-number.ensures.used)
    (used_keeps c.self.inside.names c.args.text.now c.args.slot))

pub returns-in-Some-clause-only : goal.returns-in-Some-clause-only
returns-in-Some-clause-only c =
    subst (λ m. AddsOnly (bytes_eq c.args.text.now) c.args.slot m c.use_by.new.self) c.self.view_is
    (subst (λ m. AddsOnly (bytes_eq c.args.text.now) c.args.slot c.self.inside.names m) (sym c.in_ok-number.ensures.used)
    (used_adds c.self.inside.names c.args.text.now c.args.slot))
