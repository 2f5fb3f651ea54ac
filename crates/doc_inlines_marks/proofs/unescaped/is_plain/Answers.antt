use Rattle.std.proofs.Common.{sym}
use Rattle.doc_lines.proofs.Ends.{empty_chars}
use Rattle.doc_inlines_marks.specs.EscapeSteps.{begins_escape}
use Rattle.doc_inlines_marks.proofs.PlainLaws.{escapes_are_ascii, plain_whole, no_bytes}
use Rattle.doc_inlines_marks.proofs.unescaped.is_plain.Goals as goal

pub until-requires-clause-ascii : goal.until-requires-clause-ascii
until-requires-clause-ascii c = λ b h. escapes_are_ascii b (sym h)

pub returns : goal.returns
returns c = λ is rules.
    plain_whole rules _ _ (c.until.ensures.cut begins_escape (λ b t h. h) escapes_are_ascii)
    (empty_chars _ (no_bytes c.until.result.now c.is_empty.result c.is_empty.ensures is))
