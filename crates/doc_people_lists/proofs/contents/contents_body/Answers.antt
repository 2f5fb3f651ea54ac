use Rattle.std.proofs.Common.{◌++◌, ap, ◌∙◌}
use Rattle.doc_people_lists.proofs.BodySteps.{as_made, contents_made, contents_with}
use Rattle.doc_people_lists.proofs.contents.contents_body.Goals as goal

pub returns : goal.returns
returns g c =
    let render = g.V.Viewed.render c.args.view.now in
    let view = g.V.Viewed.view c.args.view.now in
    as_made c.shell.result _ _
    (contents_made render view c.args.frame.browse.now c.args.frame.offers c.args.folder.now c.args.from.now c.get-4.result.now
    c.get-2.result.now c.as_str.result.now c.get-3.result.now (c.get-4.ensures ∙ c.in_ok-title.ensures)
    (c.get-2.ensures ∙ c.in_ok-title.ensures)
    (c.get-3.ensures ∙ c.in_ok-keys.ensures)
    (c.as_str.ensures.value ∙ c.in_ok-push_contents_main.ensures
    ∙ ap (λ t. t ++ contents_with render view c.args.folder.now c.args.from.now c.get-2.result.now c.get-3.result.now)
    c.in_ok-main.ensures.bytes))
    c.shell.ensures
