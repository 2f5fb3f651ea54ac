use Rattle.std.proofs.Common.{sym, ◌∙◌}
use Rattle.doc_words_search.proofs.AsciiSteps.{ascii_word_char}
use Rattle.doc_words_search.proofs.characters.is_word_char.Goals as goal

pub returns-then-is_ascii : goal.returns-then-is_ascii
returns-then-is_ascii c =
    c.is_ascii_alphanumeric.ensures.value ∙ ascii_word_char c.args.c (sym c.is_ascii.ensures ∙ c.if-is_ascii.true)
