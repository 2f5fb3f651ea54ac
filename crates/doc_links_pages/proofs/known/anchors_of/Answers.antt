use Rattle.std.proofs.Common.{arith}
use Rattle.doc_links_pages.proofs.AnchorSteps.{anchor_added}
use Rattle.doc_links_pages.proofs.known.anchors_of.Goals as goal

pub loop-heading-preserved : goal.loop-heading-preserved
loop-heading-preserved c =
    anchor_added c.args.headings.now c.loop-heading.heading-index c.heading-item.result c.in_ok-copy.field-0 c.loop-heading.anchors
    c.insert.new.self (omega (arith, c.loop-heading-test.true)) c.heading-item.is c.in_ok-copy.ensures c.loop-heading.invariant
    c.in_ok-insert.ensures.updates
