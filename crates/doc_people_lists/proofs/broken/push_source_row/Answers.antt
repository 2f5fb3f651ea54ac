use Rattle.std.proofs.Common.{codes}
use Rattle.doc_people.specs.Lists.{page_and_path}
use Rattle.doc_people_lines.proofs.WriteSteps.{threefold}
use Rattle.doc_people_lists.proofs.broken.push_source_row.Goals as goal

pub returns : goal.returns
returns g c =
    threefold (codes "<tr><th colspan=\"3\" scope=\"rowgroup\">") (page_and_path (g.V.Viewed.render c.args.view.now) (g.V.Viewed.view c.args.view.now) c.args.source.now) (codes "</th></tr>\n")
    _ _ _ _ c.in_ok-push_str.ensures.bytes c.in_ok-push_page_and_path.ensures c.in_ok-push_str-2.ensures.bytes
