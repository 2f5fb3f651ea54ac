use Rattle.std.proofs.Common.{ap, ◌∙◌}
use Rattle.std.specs.Prelude.{map as mapped}
use Rattle.std.specs.Char.{to_ascii_lowercase}
use Rattle.std.proofs.lemmas.Result.{on_ok_weaker}
use Rattle.std.proofs.lemmas.Str.{chars-IsAscii}
use Rattle.doc_words_search.specs.WordSteps.{counted, one_more, word_if}
use Rattle.doc_words_search.proofs.AsciiSteps.{ascii_folded}
use Rattle.doc_words_search.proofs.RunSteps.{one_run}
use Rattle.doc_words_search.proofs.counter.Counter.add_ascii.Goals as goal

pub returns : goal.returns
returns c =
    on_ok_weaker c.add.result (λ is. is ∙ ap (one_more c.args.self.now) (c.make_ascii_lowercase.ensures.bytes
    ∙ ap (mapped to_ascii_lowercase) c.in_ok-word.ensures.ok ∙ ascii_folded c.args.run.now c.requires)
    ∙ one_run c.args.self.now c.args.run.now c.is_empty.result c.utf8.run c.is_empty.ensures c.if-is_empty.false
    ∙ ap (λ r. counted c.args.self.now (word_if r)) (chars-IsAscii c.args.run.now c.requires)) c.add.ensures
