use Rattle.std.proofs.Common.{ap, chars, rules, string_bytes, ◌≡◌, ◌∙◌}
use Rattle.std.proofs.lemmas.Str.{IsUtf8-string_bytes, chars-nil}
use Rattle.doc_words_search.specs.Words.{folded}
use Rattle.doc_words_search.proofs.OrderSteps.{no_word, one_word}
use Rattle.doc_words_search.proofs.RunSteps.{no_chars}
use Rattle.doc_words_search.proofs.in_order.end_run.Goals as goal

pub returns-then-is_empty-clause-words : goal.returns-then-is_empty-clause-words
returns-then-is_empty-clause-words c = no_word c.args.words.now.items (string_bytes c.args.run.now) _ (search rules) c.if-is_empty.true

pub returns-then-is_empty-clause-run : goal.returns-then-is_empty-clause-run
returns-then-is_empty-clause-run c = no_chars (string_bytes c.args.run.now) _ (search rules) c.if-is_empty.true

pub returns-clause-words : goal.returns-clause-words
returns-clause-words c =
    let word : c.new-2.result ≡ folded (chars (string_bytes c.args.run.now)) = search rules in
    c.in_ok-push.ensures.items
    ∙ one_word c.args.words.now.items (string_bytes c.args.run.now) _ _ (IsUtf8-string_bytes c.args.run.now) (search rules)
    c.if-is_empty.false word

pub returns-clause-run : goal.returns-clause-run
returns-clause-run c = ap chars c.clear.ensures.bytes ∙ chars-nil
