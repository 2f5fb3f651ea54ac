use Rattle.doc_people.specs.Lists.{contents_line}
use Rattle.doc_people_lines.proofs.WriteSteps.{one_more}
use Rattle.doc_people_lists.proofs.contents.push_lines.Goals as goal

pub loop-key-preserved : goal.loop-key-preserved
loop-key-preserved g c =
    let render = g.V.Viewed.render c.args.view.now in
    let view = g.V.Viewed.view c.args.view.now in
    one_more (contents_line render view) _ _ _ c.args.keys.now _ c.key-item.result c.loop-key-test.true c.key-item.is
    c.loop-key.invariant c.in_ok-push_line.ensures
