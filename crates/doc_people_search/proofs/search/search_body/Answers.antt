use Rattle.std.proofs.Common.{◌∙◌}
use Rattle.doc_people_search.proofs.AskSteps.{body_is, code_of_query}
use Rattle.doc_people_search.proofs.search.search_body.Goals as goal

pub returns-clause-code : goal.returns-clause-code
returns-clause-code g c = code_of_query c.args.query.now c.in_ok-asked.asked _ c.in_ok-asked.ensures c.code.ensures

pub returns-clause-body : goal.returns-clause-body
returns-clause-body g c =
    c.in_ok-body.ensures
    ∙ body_is (g.V.Viewed.render c.args.view.now) c.args.frame.browse.now c.args.frame.offers (g.V.Viewed.view c.args.view.now)
    c.args.query.now c.as_str.result.now c.in_ok-asked.asked c.in_ok-asked.ensures (c.as_str.ensures.value ∙ c.in_ok-main.ensures)
