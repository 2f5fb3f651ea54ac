use Rattle.doc_people.specs.Lists.{backlink_line}
use Rattle.doc_people_lines.proofs.WriteSteps.{one_more}
use Rattle.doc_people_lists.proofs.backlinks.push_lines.Goals as goal

pub loop-source-preserved : goal.loop-source-preserved
loop-source-preserved g c =
    let render = g.V.Viewed.render c.args.view.now in
    let view = g.V.Viewed.view c.args.view.now in
    one_more (backlink_line render view) _ _ _ c.args.sources.now _ c.source-item.result c.loop-source-test.true c.source-item.is
    c.loop-source.invariant c.in_ok-push_line.ensures
