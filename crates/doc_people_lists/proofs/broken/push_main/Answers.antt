use Rattle.std.proofs.Common.{codes, take, ◌∙◌}
use Rattle.std.specs.Prelude.{option_map, slice_get}
use Rattle.doc_people.specs.BrokenLinks.{by_source, table_or_note}
use Rattle.doc_people.specs.Lists.{note_from, pager}
use Rattle.doc_people_lists.proofs.GroupSteps.{next_page}
use Rattle.doc_people_lines.proofs.WriteSteps.{third_written}
use Rattle.doc_people_lists.proofs.broken.push_main.Goals as goal

pub returns : goal.returns
returns g c =
    third_written c.push_pager.result (codes "<h1>Broken links</h1>\n<p>A page that you may not read counts as none.</p>\n")
    (table_or_note (g.V.Viewed.render c.args.view.now) c.args.frame.offers (g.V.Viewed.view c.args.view.now)
    (g.V.Viewed.media c.args.view.now) (note_from c.args.from.now (codes "No link is broken on the pages that you may read."))
    (take 50 (by_source c.args.links.now)))
    (pager (codes "/broken") c.args.from.now (option_map (λ group. group.0) (slice_get (by_source c.args.links.now) 50))) _ _ _ _
    c.in_ok-push_str.ensures.bytes c.in_ok-left.ensures.written
    (rw (c.first_page.ensures ∙ next_page c.args.links.now c.in_ok-left.left.now c.in_ok-left.ensures.left) at c.push_pager.ensures)
