use Rattle.std.proofs.Common.{◌++◌, ap, ◌∙◌}
use Rattle.doc_people.specs.BrokenLinks.{broken_main, by_source}
use Rattle.doc_people_lists.proofs.BodySteps.{as_made, broken_made}
use Rattle.doc_people_lists.proofs.broken.broken_body.Goals as goal

pub returns : goal.returns
returns g c =
    let render = g.V.Viewed.render c.args.view.now in
    let view = g.V.Viewed.view c.args.view.now in
    let media = g.V.Viewed.media c.args.view.now in
    as_made c.shell.result _ _
    (broken_made render view c.args.frame.browse.now c.args.frame.offers media c.args.from.now c.as_str.result.now c.get-2.result.now
    (c.get-2.ensures ∙ c.in_ok-links.ensures)
    (c.as_str.ensures.value ∙ c.in_ok-push_main.ensures
    ∙ ap (λ t. t ++ broken_main render c.args.frame.offers view media c.args.from.now (by_source c.get-2.result.now)) c.in_ok-main.ensures.bytes))
    c.shell.ensures
