use Rattle.std.proofs.Common.{◌++◌, ap, codes, string_bytes, ◌∙◌}
use Rattle.doc_people.specs.Lists.{link_count, page_and_path}
use Rattle.doc_people_lines.proofs.WriteSteps.{fourfold}
use Rattle.doc_people_lists.proofs.backlinks.push_line.Goals as goal

pub returns : goal.returns
returns g c =
    let render = g.V.Viewed.render c.args.view.now in
    let view = g.V.Viewed.view c.args.view.now in
    fourfold (codes "<li>") (page_and_path render view c.args.source.now.0) (link_count c.args.source.now.1) (codes "</li>\n")
    _ _ _ _ _ c.in_ok-push_str.ensures.bytes
    (c.in_ok-push_page_and_path.ensures ∙ ap (λ t. string_bytes c.push_str.new.self ++ page_and_path render view t) c.text.ensures)
    c.in_ok-push_link_count.ensures c.in_ok-push_str-2.ensures.bytes
