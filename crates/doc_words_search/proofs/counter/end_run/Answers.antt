use Rattle.std.proofs.Common.{ap, chars, rules, string_bytes, ◌∙◌}
use Rattle.std.proofs.lemmas.Str.{IsUtf8-string_bytes, chars-nil}
use Rattle.doc_words_search.proofs.RunSteps.{no_chars, no_run, one_run}
use Rattle.doc_words_search.proofs.counter.end_run.Goals as goal

pub returns-then-is_empty-clause-counts : goal.returns-then-is_empty-clause-counts
returns-then-is_empty-clause-counts c = no_run c.args.counter.now (string_bytes c.args.run.now) _ (search rules) c.if-is_empty.true

pub returns-then-is_empty-clause-run : goal.returns-then-is_empty-clause-run
returns-then-is_empty-clause-run c = no_chars (string_bytes c.args.run.now) _ (search rules) c.if-is_empty.true

pub returns-clause-counts : goal.returns-clause-counts
returns-clause-counts c =
    c.in_ok-count_run.ensures
    ∙ one_run c.args.counter.now (string_bytes c.args.run.now) _ (IsUtf8-string_bytes c.args.run.now) (search rules) c.if-is_empty.false

pub returns-clause-run : goal.returns-clause-run
returns-clause-run c = ap chars c.clear.ensures.bytes ∙ chars-nil
