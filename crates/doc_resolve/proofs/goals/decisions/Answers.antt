use Rattle.std.proofs.Common.{◌∙◌, ap, sym}
use Rattle.doc_resolve.specs.Decisions.{goals_of}
use Rattle.doc_resolve.specs.Links.{kinds}
use Rattle.doc_resolve.proofs.DecisionLaws.{decisions_are_goals}
use Rattle.doc_resolve.proofs.goals.decisions.Goals as goal

pub returns : goal.returns
returns g c =
    let goals = g.S.Sight.goals c.args.sight.now in
    let page = c.args.page.now in
    let links = c.deref.ensures.value ∙ c.in_ok-links.ensures ∙ ap (kinds page) c.get.ensures in
    c.new.ensures
    ∙ c.in_ok-goals_of.ensures
    ∙ ap (goals_of goals) links
    ∙ sym (decisions_are_goals goals page c.args.rendered.now)
