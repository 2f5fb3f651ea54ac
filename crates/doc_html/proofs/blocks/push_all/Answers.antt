use Rattle.std.proofs.Common.{arith}
use Rattle.doc_html.proofs.TagSteps.{told_begins, told_goes_on, told_all}
use Rattle.doc_html.proofs.blocks.push_all.Goals as goal

pub loop-tag-init : goal.loop-tag-init
loop-tag-init g c = λ definitions p is h.
    told_begins g.W.Writer.holds c.args.source.now.entities.now definitions p c.args.writer.now _ c.new-nesting.ensures h

pub loop-tag-preserved : goal.loop-tag-preserved
loop-tag-preserved g c = λ definitions p is h.
    told_goes_on g.W.Writer.holds c.args.source.now.entities.now definitions p c.loop-tag.writer c.push_tag.new.writer
    c.args.tags.now c.loop-tag.tag-index _ _ _ (omega arith)
    c.in_ok-push_tag.ensures.nested (c.in_ok-push_tag.ensures.written definitions is) (c.loop-tag.invariant definitions p is h)

pub returns : goal.returns
returns g c = λ definitions blocks p is flat h.
    told_all g.W.Writer.holds c.args.source.now.entities.now definitions p c.loop-tag.writer c.args.tags.now c.loop-tag.tag-index blocks _
    (omega arith) flat (c.loop-tag.invariant definitions p is h)
