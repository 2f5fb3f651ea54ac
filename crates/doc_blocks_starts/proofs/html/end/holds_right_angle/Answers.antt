use Rattle.std.proofs.Common.{rules, ◌==◌, not, sym, ap, ◌∙◌, chars}
use Rattle.std.specs.Option.{is_some}
use Rattle.doc_rules.specs.Parsers.{is, many}
use Rattle.doc_lines.proofs.Steps.{then_is, through_is}
use Rattle.doc_blocks_starts.proofs.html.end.holds_right_angle.Goals as goal

pub returns : goal.returns
returns c =
    search rules
    ∙ ap is_some (then_is (many (λ d. not (d == 62))) (is 62) (chars c.args.line.now) (chars c.many.result.now) _
    (c.many.ensures.value (λ d. not (d == 62)) (λ d b h. h)) c.is.ensures
    ∙ sym (through_is 62 (chars c.args.line.now)))
