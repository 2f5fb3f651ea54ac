use Rattle.std.proofs.Common.{rules, ◌≡◌, true, false, ◌∙◌, sym, ap, ℕ, List, Some, chars}
use Rattle.doc_front.specs.ValueSteps.{value_shown}
use Rattle.doc_front.proofs.FrontSteps.{has_one, no_title, no_value, title_stands}
use Rattle.doc_front.proofs.fronting.titled.Goals as goal

pub returns-then-has_heading : goal.returns-then-has_heading
returns-then-has_heading c =
    let has : c.has_heading.result ≡ true = search rules in
    has_one _ _ (sym has ∙ c.has_heading.ensures)

pub returns-in_default : goal.returns-in_default
returns-in_default c = no_title _ _ c.in_default.ensures

pub returns-in_default-2 : goal.returns-in_default-2
returns-in_default-2 c = no_value _ _ _ c.in-Some.ensures (sym (ap value_shown c.in_default-2.is) ∙ c.in_ok-title.ensures)

pub returns : goal.returns
returns c =
    let has : c.has_heading.result ≡ false = search rules in
    title_stands _ _ _ _ _ c.in-Some.ensures (ap (λ (b : List ℕ). Some (chars b)) c.get.ensures ∙ (sym (ap value_shown c.in-Some-2.is)
    ∙ c.in_ok-title.ensures)) (sym has ∙ c.has_heading.ensures) c.in_ok-headed.ensures
