use Rattle.std.proofs.Common.{◌++◌, ap, codes, ◌∙◌}
use Rattle.doc_people.specs.Folders.{folder_of, label}
use Rattle.doc_people.specs.Lists.{backlinks_main}
use Rattle.doc_people_lists.proofs.BodySteps.{as_made, backlinks_made}
use Rattle.doc_people_lists.proofs.backlinks.backlinks_body.Goals as goal

pub returns : goal.returns
returns g c = λ page at.
    let render = g.V.Viewed.render c.args.view.now in
    let view = g.V.Viewed.view c.args.view.now in
    as_made c.shell.result _ _
    (backlinks_made render view c.args.frame.browse.now c.args.frame.offers c.args.path.now c.args.from.now c.get-3.result.now
    c.folder_of-folder.result.now c.as_str.result.now c.get-2.result.now
    (c.get-3.ensures ∙ c.in_ok-title.ensures ∙ ap (λ p. codes "Pages that link to " ++ label render view p) c.text.ensures)
    (c.folder_of-folder.ensures ∙ ap folder_of c.text-2.ensures)
    (c.get-2.ensures ∙ c.in_ok-sources.ensures page at)
    (c.as_str.ensures.value ∙ c.in_ok-push_backlinks_main.ensures
    ∙ ap (λ t. t ++ backlinks_main render view c.text-3.result.now c.args.from.now c.get-2.result.now) c.in_ok-main.ensures.bytes
    ∙ ap (λ p. backlinks_main render view p c.args.from.now c.get-2.result.now) c.text-3.ensures))
    c.shell.ensures
