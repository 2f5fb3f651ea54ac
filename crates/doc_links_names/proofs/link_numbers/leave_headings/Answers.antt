use Rattle.std.proofs.Common.{arith}
use Rattle.doc_links_names.proofs.TextSteps.{anchor_gone}
use Rattle.doc_links_names.proofs.Uses.{adds_nothing_then, keeps_others_then}
use Rattle.doc_links_names.proofs.link_numbers.leave_headings.Goals as goal

pub loop-heading-preserved : goal.loop-heading-preserved
loop-heading-preserved c = record {
  kept = keeps_others_then c.args.slot c.args.names.now c.loop-heading.names c.leave.new.self c.loop-heading.invariant.kept
      c.leave.ensures.kept;
  fewer = adds_nothing_then c.args.names.now c.loop-heading.names c.leave.new.self c.loop-heading.invariant.fewer c.leave.ensures.fewer;
  gone = anchor_gone c.args.headings.now c.loop-heading.heading-index c.heading-item.result c.get.result.now
      (omega (arith, c.loop-heading-test.true)) c.heading-item.is c.get.ensures c.loop-heading.names c.leave.new.self c.args.slot
      c.leave.ensures.fewer c.leave.ensures.gone c.loop-heading.invariant.gone;
}
