use Rattle.std.proofs.Common.{◌∙◌}
use Rattle.doc_people_pages.proofs.LinkedSteps.{asked_for}
use Rattle.doc_people_lines.proofs.WriteSteps.{as_told}
use Rattle.doc_people_pages.proofs.linked_from.push_linked_from.Goals as goal

pub returns : goal.returns
returns g c = λ page at.
    let render = g.V.Viewed.render c.args.view.now in
    let view = g.V.Viewed.view c.args.view.now in
    as_told c.push_sources.result _ _ _ _
    (asked_for render view c.args.path.now c.get.result.now (c.get.ensures ∙ c.in_ok-sources.ensures page at))
    (rw c.text.ensures at c.push_sources.ensures)
