use Rattle.std.proofs.Common.{◌+◌, ◌≤◌, arith, sym}
use Rattle.doc_html.specs.InlineSteps.{images_behind}
use Rattle.doc_html.proofs.WriterSteps.{same, both, nothing}
use Rattle.doc_html.proofs.InlineLaws.{html_begins, along_begins, along_more, html_more, few_more}
use Rattle.doc_html.proofs.CutSteps.{cut_mark}
use Rattle.doc_html.proofs.inlines.push_marks.Goals as goal

pub loop-mark-init : goal.loop-mark-init
loop-mark-init g c = record {
  few = omega arith;
  count = along_begins;
  written = same g.W.Writer.holds c.args.writer.now c.args.writer.now _ _ (sym html_begins) (nothing g.W.Writer.holds c.args.writer.now);
}

pub loop-mark-preserved : goal.loop-mark-preserved
loop-mark-preserved g c =
    let i = c.loop-mark.invariant in
    let few : images_behind c.loop-mark.images c.mark-item.result ≤ c.loop-mark.images + 1 = few_more c.loop-mark.images c.mark-item.result
    in
    record {
      few = omega (arith, c.in_ok-images.ensures.behind, few, i.few);
      count = along_more c.args.marks.now c.loop-mark.mark-index c.mark-item.result c.loop-mark.images _ (omega arith) c.mark-item.is
          i.count c.in_ok-images.ensures.behind;
      written = same g.W.Writer.holds c.args.writer.now c.push_mark.new.writer _ _
          (html_more c.args.marks.now c.loop-mark.mark-index c.mark-item.result c.loop-mark.images (omega arith) c.mark-item.is i.count)
          (both g.W.Writer.holds c.args.writer.now c.loop-mark.writer c.push_mark.new.writer _ _ i.written c.in_ok-images.ensures.written);
    }

pub push_mark-requires-clause-cut : goal.push_mark-requires-clause-cut
push_mark-requires-clause-cut g c = cut_mark c.args.marks.now c.loop-mark.mark-index c.mark-item.result c.requires (omega arith)
    c.mark-item.is
