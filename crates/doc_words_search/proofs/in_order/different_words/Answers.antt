use Rattle.std.proofs.Common.{ap, ◌∙◌}
use Rattle.std.specs.FinMap as map
use Rattle.std.proofs.lemmas.List.{take_all}
use Rattle.std.proofs.lemmas.Result.{IfOk-weaker}
use Rattle.doc_words_search.specs.WordSteps.{counted, one_more}
use Rattle.doc_words_search.proofs.CountSteps.{counted_all}
use Rattle.doc_words_search.proofs.OrderSteps.{word_more}
use Rattle.doc_words_search.proofs.in_order.different_words.Goals as goal

pub loop-word-preserved : goal.loop-word-preserved
loop-word-preserved c =
    word_more c.loop-word.counter c.add_plain.new.self c.args.words.now c.loop-word.word-index c.word-item.result c.loop-word-test.true
    c.word-item.is c.loop-word.invariant (c.in_ok-add_plain.ensures ∙ ap (one_more c.loop-word.counter) c.text.ensures)

pub returns : goal.returns
returns c =
    IfOk-weaker c.keys.result _ _ (λ words is. is ∙ ap map.keys (c.loop-word.invariant
    ∙ ap (counted map.empty) (take_all c.loop-word.word-index c.args.words.now c.loop-word-test.false)
    ∙ counted_all c.args.words.now)) c.keys.ensures
