use Rattle.std.proofs.Common.{ap, ◌∙◌}
use Rattle.std.specs.FinMap as map
use Rattle.std.specs.List.{flat_map}
use Rattle.std.proofs.lemmas.List.{take_all}
use Rattle.doc_words_search.specs.Words.{page_words, words_of}
use Rattle.doc_words_search.specs.WordSteps.{counted}
use Rattle.doc_words_search.proofs.CountSteps.{counted_all, text_more}
use Rattle.doc_words_search.proofs.words.gathered.Goals as goal

pub loop-text-preserved : goal.loop-text-preserved
loop-text-preserved c =
    text_more c.loop-text.counter c.count_text.new.counter c.get-texts.result.now c.loop-text.text-index c.text-item.result
    c.loop-text-test.true c.text-item.is c.loop-text.invariant
    (c.in_ok-count_text.ensures ∙ ap (λ text. counted c.loop-text.counter (words_of text)) c.get.ensures)

pub returns : goal.returns
returns c =
    c.loop-text.invariant
    ∙ ap (λ texts. counted map.empty (flat_map words_of texts))
    (take_all c.loop-text.text-index c.get-texts.result.now c.loop-text-test.false ∙ c.get-texts.ensures)
    ∙ counted_all (page_words c.args.page.now)
