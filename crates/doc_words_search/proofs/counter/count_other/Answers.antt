use Rattle.std.proofs.Common.{◌<◌, ap, arith, chars, length, refl, string_bytes, subst, sym, ◌∙◌}
use Rattle.std.proofs.lemmas.Str.{chars-nil}
use Rattle.doc_words_search.specs.WordSteps.{counted, word_if, words_after}
use Rattle.doc_words_search.proofs.RunSteps.{end_counted, from_start, gap_counted}
use Rattle.doc_words_search.proofs.counter.count_other.Goals as goal

pub characters-init : goal.characters-init
characters-init c = record {
  is_text = c.utf8.text;
  kept = refl;
  same = ap (λ r. words_after r (chars c.args.text.now)) (ap chars c.in_ok-run.ensures.bytes ∙ chars-nil) ∙ from_start c.args.text.now;
  fewer = omega arith;
}

pub returns-then-not-is_word_char-clause-words : goal.returns-then-not-is_word_char-clause-words
returns-then-not-is_word_char-clause-words c =
    gap_counted c.args.counter.now c.end_run.new.counter (chars (string_bytes c.characters.run)) c.args.text.now c.characters.rest.now
    c.in-Some.behind.now c.in-Some.c c.characters.invariant.same c.in-Some.ensures
    (sym c.is_word_char.ensures ∙ c.if-not-is_word_char.true)
    (c.in_ok-end_run.ensures.counts ∙ ap (λ m. counted m (word_if (chars (string_bytes c.characters.run)))) c.characters.invariant.kept)

pub returns-clause-words : goal.returns-clause-words
returns-clause-words c =
    end_counted c.args.counter.now c.end_run-2.new.counter (chars (string_bytes c.characters.run)) c.args.text.now c.characters.rest.now
    c.characters.invariant.same c.in_default.ensures
    (c.in_ok-end_run-2.ensures.counts ∙ ap (λ m. counted m (word_if (chars (string_bytes c.characters.run)))) c.characters.invariant.kept)

pub returns-clause-shorter : goal.returns-clause-shorter
returns-clause-shorter c = λ some. subst (λ n. n < length (chars c.args.text.now)) (sym (ap length chars-nil)) some
