use Rattle.std.proofs.Common.{sym, ◌∙◌}
use Rattle.doc_inlines.proofs.PlainEndLaws.{all_on_ok}
use Rattle.doc_inlines.proofs.LetterLaws.{plain_letter, letter_no_space}
use Rattle.doc_inlines.proofs.reader.Reader.letter.Goals as goal

pub plain-requires-clause-plain : goal.plain-requires-clause-plain
plain-requires-clause-plain c = plain_letter c.args.entities.now c.args.c c.requires.letter (sym c.bare_links.ensures ∙ c.if-not-bare_links.true)

pub plain-requires-clause-other : goal.plain-requires-clause-other
plain-requires-clause-other c = letter_no_space c.args.c c.requires.letter

pub returns : goal.returns
returns c = all_on_ok c.bare_link.result (λ all targets. all c.args.entities.now targets (sym c.bare_links.ensures ∙ c.if-not-bare_links.false))
    c.bare_link.ensures
