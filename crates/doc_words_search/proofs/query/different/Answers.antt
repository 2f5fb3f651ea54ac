use Rattle.std.proofs.Common.{ap, ◌∙◌}
use Rattle.std.specs.FinMap as map
use Rattle.std.proofs.lemmas.Result.{IfOk-weaker}
use Rattle.doc_words_search.specs.Words.{words_of}
use Rattle.doc_words_search.specs.WordSteps.{counted}
use Rattle.doc_words_search.proofs.CountSteps.{counted_all}
use Rattle.doc_words_search.proofs.query.different.Goals as goal

pub returns : goal.returns
returns c =
    IfOk-weaker c.keys.result _ _ (λ words is. is ∙ ap map.keys (c.in_ok-count_text.ensures
    ∙ ap (λ m. counted m (words_of c.args.text.now)) c.new-counter.ensures ∙ counted_all (words_of c.args.text.now))) c.keys.ensures
