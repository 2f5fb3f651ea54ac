use Rattle.std.proofs.Common.{codes}
use Rattle.doc_people.specs.Folders.{contents_href, folder_label}
use Rattle.doc_people.specs.Lines.{link}
use Rattle.doc_people.specs.Lists.{path_span}
use Rattle.doc_people_lines.proofs.WriteSteps.{item_of_two}
use Rattle.doc_people_lists.proofs.contents.push_folder_line.Goals as goal

pub returns : goal.returns
returns g c =
    let render = g.V.Viewed.render c.args.view.now in
    let view = g.V.Viewed.view c.args.view.now in
    item_of_two (codes "<li class=\"dir\">") (link (contents_href c.args.key.now) (folder_label render view c.args.key.now))
    (path_span c.args.key.now) (codes "</li>\n") _ _ _ _ _ c.in_ok-push_str.ensures.bytes c.in_ok-push_contents_link.ensures
    c.in_ok-push_path_span.ensures c.in_ok-push_str-2.ensures.bytes
