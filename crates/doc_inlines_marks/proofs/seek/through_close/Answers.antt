use Rattle.std.proofs.Common.{◌==◌, not, sym, ◌∙◌, chars}
use Rattle.doc_rules.specs.Parsers.{is, many}
use Rattle.doc_lines.proofs.Steps.{then_is, through_is}
use Rattle.doc_inlines_marks.proofs.seek.through_close.Goals as goal

pub returns : goal.returns
returns c =
    then_is (many (λ d. not (d == 62))) (is 62) (chars c.args.text.now) (chars c.many.result.now) _
    (c.many.ensures.value (λ d. not (d == 62)) (λ d b h. h)) c.is.ensures
    ∙ sym (through_is 62 (chars c.args.text.now))
