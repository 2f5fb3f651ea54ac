use Rattle.std.proofs.Common.{◌≡◌, ◌∙◌, [], ap, rules}
use Rattle.doc_html.specs.TellingSteps.{left}
use Rattle.doc_html.proofs.TagSteps.{left_one, left_none}
use Rattle.doc_html.proofs.nesting.Nesting.leave.Goals as goal

pub returns-in-Some : goal.returns-in-Some
returns-in-Some c = left_one _ _ c.in-Some.tight _ c.in-Some.ensures.items ∙ ap left c.self.view_is

pub returns-in_default : goal.returns-in_default
returns-in_default c =
    let was : c.self.inside.outer.items ≡ [] = search rules in
    let is : c.pop.new.self.items ≡ [] = search rules in
    left_none _ _ _ was is ∙ ap left c.self.view_is
