use Rattle.std.proofs.Common.{◌≡◌, IfOk, subst}
use Rattle.doc_rules.specs.Characters.{Text}
use Rattle.doc_front.specs.Fronted.{text_of}
use Rattle.doc_front.proofs.FrontSteps.{with_title_is, with_title_stays}
use Rattle.doc_front.proofs.fronting.with_title.Goals as goal

pub returns-in-Some : goal.returns-in-Some
returns-in-Some c =
    subst (λ (t : Text). IfOk c.titled.result (λ fronted. text_of fronted ≡ t)) (with_title_is _ _ _ c.in-Some.ensures) c.titled.ensures

pub returns-in-None : goal.returns-in-None
returns-in-None c = with_title_stays _ c.in-None.ensures
