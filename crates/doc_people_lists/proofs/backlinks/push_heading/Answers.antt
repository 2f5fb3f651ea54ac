use Rattle.std.proofs.Common.{codes}
use Rattle.doc_people.specs.Folders.{label, page_href}
use Rattle.doc_people.specs.Lines.{link}
use Rattle.doc_people_lines.proofs.WriteSteps.{threefold}
use Rattle.doc_people_lists.proofs.backlinks.push_heading.Goals as goal

pub returns : goal.returns
returns g c =
    let render = g.V.Viewed.render c.args.view.now in
    let view = g.V.Viewed.view c.args.view.now in
    threefold (codes "<h1>Pages that link to ") (link (page_href c.args.path.now) (label render view c.args.path.now)) (codes "</h1>\n")
    _ _ _ _ c.in_ok-push_str.ensures.bytes c.in_ok-push_page_link.ensures c.in_ok-push_str-2.ensures.bytes
