use Rattle.std.proofs.Common.{string_bytes}
use Rattle.doc_people.specs.Search.{hit_line}
use Rattle.doc_people_search.proofs.HitSteps.{one_written}
use Rattle.doc_people_search.proofs.hits.push_hit_lines.Goals as goal

pub loop-hit-preserved : goal.loop-hit-preserved
loop-hit-preserved g c =
    one_written (hit_line (g.V.Viewed.render c.args.view.now) (g.V.Viewed.view c.args.view.now) c.args.terms.now)
    (string_bytes c.args.out.now) (string_bytes c.loop-hit.out) (string_bytes c.push_hit_line.new.out) c.args.hits.now
    c.loop-hit.hit-index c.hit-item.result c.loop-hit-test.true c.hit-item.is c.loop-hit.invariant c.in_ok-push_hit_line.ensures
