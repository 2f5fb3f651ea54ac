use Rattle.std.proofs.Common.{subst, take}
use Rattle.doc_words_search.specs.WordSteps.{IsRun}
use Rattle.doc_words_search.proofs.PlainSteps.{letters_run}
use Rattle.doc_words_search.proofs.plain.ascii_run.Goals as goal

pub run_to-requires-clause-run : goal.run_to-requires-clause-run
run_to-requires-clause-run c =
    subst (λ t. IsRun (take c.ascii_len-end.result t)) c.as_bytes.ensures.value
    (letters_run (take c.ascii_len-end.result c.as_bytes.result.now) c.ascii_len-end.ensures.letters)
