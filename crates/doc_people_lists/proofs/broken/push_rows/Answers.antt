use Rattle.doc_people.specs.BrokenLinks.{broken_row}
use Rattle.doc_people_lines.proofs.WriteSteps.{one_more}
use Rattle.doc_people_lists.proofs.broken.push_rows.Goals as goal

pub loop-link-preserved : goal.loop-link-preserved
loop-link-preserved g c =
    one_more (broken_row c.args.frame.offers (g.V.Viewed.view c.args.view.now) (g.V.Viewed.media c.args.view.now)) _ _ _ c.args.links.now _ c.link-item.result
    c.loop-link-test.true c.link-item.is c.loop-link.invariant c.in_ok-push_row.ensures
