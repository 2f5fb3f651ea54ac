use Rattle.std.proofs.Common.{ap, string_bytes, subst, IsAscii, ◌∙◌}
use Rattle.std.proofs.lemmas.Result.{on_ok_weaker}
use Rattle.doc_words_search.specs.WordSteps.{one_more}
use Rattle.doc_words_search.proofs.AsciiSteps.{ascii_folded}
use Rattle.doc_words_search.proofs.counter.count_run.Goals as goal

pub returns-then-is_ascii : goal.returns-then-is_ascii
returns-then-is_ascii c =
    let ascii : IsAscii (string_bytes c.args.run.now) = subst IsAscii c.as_str.ensures.value c.if-is_ascii.ensures.cases in
    on_ok_weaker c.add_text.result (λ is. is ∙ ap (one_more c.args.counter.now) (c.as_str-then-is_ascii.ensures.value
    ∙ c.make_ascii_lowercase.ensures.bytes ∙ ascii_folded (string_bytes c.args.run.now) ascii)) c.add_text.ensures
