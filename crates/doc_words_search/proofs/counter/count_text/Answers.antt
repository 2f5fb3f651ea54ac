use Rattle.std.proofs.Common.{ap, length, sym, ◌∙◌}
use Rattle.std.proofs.lemmas.List.{nil_from_length}
use Rattle.doc_page_parts.proofs.Numbers.{zero_test_true}
use Rattle.doc_page_parts.proofs.Texts.{chars_not_empty}
use Rattle.doc_words_search.specs.Words.{words_of}
use Rattle.doc_words_search.specs.WordSteps.{counted}
use Rattle.doc_words_search.proofs.PlainSteps.{no_words}
use Rattle.doc_words_search.proofs.RunSteps.{some_bytes}
use Rattle.doc_words_search.proofs.counter.count_text.Goals as goal

pub runs-smaller : goal.runs-smaller
runs-smaller c =
    c.in_ok-rest.ensures.shorter (chars_not_empty c.runs.rest.now c.runs.invariant.is_text
    (some_bytes c.runs.rest.now c.is_empty.result c.is_empty.ensures c.runs-test.true))

pub returns : goal.returns
returns c =
    sym (ap (counted c.runs.counter)
    (ap words_of (nil_from_length c.runs.rest.now
    (zero_test_true c.is_empty.result (length c.runs.rest.now) c.is_empty.ensures c.runs-test.false))
    ∙ no_words)) ∙ c.runs.invariant.same
