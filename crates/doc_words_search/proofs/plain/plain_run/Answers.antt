use Rattle.std.proofs.Common.{◌≡◌, subst, take, true}
use Rattle.std.specs.List.{list_all}
use Rattle.doc_words_search.specs.WordSteps.{IsRun, is_plain}
use Rattle.doc_words_search.proofs.PlainSteps as steps
use Rattle.doc_words_search.proofs.plain.plain_run.Goals as goal

pub run_to-requires-clause-run : goal.run_to-requires-clause-run
run_to-requires-clause-run c =
    subst (λ t. IsRun (take c.plain_len-end.result t)) c.as_bytes.ensures.value
    (steps.plain_run (take c.plain_len-end.result c.as_bytes.result.now) c.plain_len-end.ensures.plain)

pub returns-clause-words : goal.returns-clause-words
returns-clause-words c =
    steps.own_words c.run_to.result c.args.text.now (take c.plain_len-end.result c.args.text.now)
    (subst (λ t. list_all is_plain (take c.plain_len-end.result t) ≡ true) c.as_bytes.ensures.value c.plain_len-end.ensures.plain)
    c.run_to.ensures.run c.run_to.ensures.words
