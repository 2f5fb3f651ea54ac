use Rattle.doc_words_search.specs.SearchSteps.{pages_at, rarity_in}
use Rattle.doc_words_search.proofs.SearchSteps.{weighed_next}
use Rattle.doc_words_search.proofs.weighing.weigh_all.Goals as goal

pub loop-word-preserved : goal.loop-word-preserved
loop-word-preserved c =
    weighed_next c.args.pages.now (rarity_in c.args.count (pages_at c.args.pages.now c.args.seen.now))
    c.args.words.now c.loop-word.all.items c.push.new.self.items
    c.loop-word.word-index c.word-item.result c.in_ok-weigh.field-0 c.loop-word-test.true c.word-item.is c.loop-word.invariant
    c.in_ok-weigh.ensures c.in_ok-push.ensures.items
