use Rattle.std.proofs.Common.{◌≡◌, ◌<◌, arith}
use Rattle.doc_html.proofs.WriterSteps.{same}
use Rattle.doc_html.proofs.InlineLaws.{is_inside, is_outside}
use Rattle.doc_html.proofs.inlines.push_mark.Goals as goal
use Rattle.doc_html.proofs.inlines.push_mark.Goals.{else-images-gt0-via-then-images-gt0+else-behind-gt0}
use Rattle.doc_html.proofs.inlines.push_mark.Goals.{else-images-gt0-via-else-images-gt0}

pub returns-then-behind-gt0-clause-written : goal.returns-then-behind-gt0-clause-written
returns-then-behind-gt0-clause-written g c =
    same g.W.Writer.holds c.args.writer.now c.push_plain.new.writer _ _
    (is_inside c.args.images c.images_behind-behind.result c.args.mark.now c.images_behind-behind.ensures (omega arith) (omega arith))
    c.in_ok-push_plain.ensures

pub returns-clause-written : goal.returns-clause-written
returns-clause-written g c =
    let out : 0 < c.args.images → c.images_behind-behind.result ≡ 0 =
    elim c.else-images-gt0.branch [
      | else-images-gt0-via-then-images-gt0+else-behind-gt0 w ↦ λ h. omega arith
      | else-images-gt0-via-else-images-gt0 w ↦ λ h. omega arith
    ] in
    same g.W.Writer.holds c.args.writer.now c.push_whole.new.writer _ _
    (is_outside c.args.images c.images_behind-behind.result c.args.mark.now c.images_behind-behind.ensures out) c.in_ok-push_whole.ensures
