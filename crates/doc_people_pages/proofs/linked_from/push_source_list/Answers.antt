use Rattle.std.proofs.Common.{codes}
use Rattle.std.specs.List.{flat_map}
use Rattle.doc_people.specs.Pages.{source_item}
use Rattle.doc_people_lines.proofs.WriteSteps.{threefold}
use Rattle.doc_people_pages.proofs.linked_from.push_source_list.Goals as goal

pub returns : goal.returns
returns g c =
    let render = g.V.Viewed.render c.args.view.now in
    let view = g.V.Viewed.view c.args.view.now in
    threefold (codes "<h2>Linked from</h2>\n<ul>\n") (flat_map (source_item render view) c.args.sources.now) (codes "</ul>\n")
    _ _ _ _ c.in_ok-push_str.ensures.bytes c.in_ok-push_source_items.ensures c.in_ok-push_str-2.ensures.bytes
