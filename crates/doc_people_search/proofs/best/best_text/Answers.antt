use Rattle.doc_people_search.proofs.BestSteps.{kept, replaced}
use Rattle.doc_people_search.proofs.best.best_text.Goals as goal

pub loop-text-preserved-then-met-least : goal.loop-text-preserved-then-met-least
loop-text-preserved-then-met-least c =
    let both = kept c.args.terms.now c.args.title.now c.within-text-items.result.now c.loop-text.text-index c.text-item.result
    c.get-text.result.now c.loop-text.best.now c.is_read.result c.loop-text.least c.in_ok-met.met c.loop-text-test.true c.text-item.is
    c.get-text.ensures c.is_read.ensures c.if-not-is_read.false c.in_ok-met.ensures.met c.loop-text.invariant.best
    c.loop-text.invariant.least c.if-met-least.true in
    record { is_text = c.loop-text.invariant.is_text; best = both.0; least = both.1 }

pub loop-text-preserved : goal.loop-text-preserved
loop-text-preserved c =
    let both = replaced c.args.terms.now c.args.title.now c.within-text-items.result.now c.loop-text.text-index c.text-item.result
    c.get-text.result.now c.is_read.result c.loop-text.least c.in_ok-met.met c.loop-text-test.true c.text-item.is c.get-text.ensures
    c.is_read.ensures c.if-not-is_read.false c.in_ok-met.ensures.met c.loop-text.invariant.least c.if-met-least.false in
    record { is_text = c.get-text.utf8; best = both.0; least = both.1 }
