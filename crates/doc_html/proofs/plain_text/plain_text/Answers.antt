use Rattle.std.proofs.Common.{string_bytes, arith}
use Rattle.doc_html.proofs.PlainTextSteps.{plain_begins, plain_goes_on}
use Rattle.doc_html.proofs.plain_text.plain_text.Goals as goal

pub loop-mark-init : goal.loop-mark-init
loop-mark-init c = plain_begins _ c.in_ok-out.ensures.bytes

pub loop-mark-preserved : goal.loop-mark-preserved
loop-mark-preserved c =
    plain_goes_on c.args.marks.now c.loop-mark.mark-index c.mark-item.result (string_bytes c.loop-mark.out) _ (omega arith) c.mark-item.is
    c.loop-mark.invariant c.in_ok-push_mark.ensures
