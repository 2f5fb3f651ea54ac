use Rattle.std.proofs.Common.{arith, bytes_eq}
use Rattle.doc_links_pages.specs.Links.{has_anchor}
use Rattle.doc_links_names.proofs.NumberSteps.{no_anchors, one_more_anchor}
use Rattle.doc_links_names.proofs.TextSteps.{anchor_of_them}
use Rattle.doc_links_names.proofs.Uses.{adds_itself, adds_then, keeps_itself, keeps_then}
use Rattle.doc_links_names.proofs.link_numbers.anchor_numbers.Goals as goal

pub loop-heading-init : goal.loop-heading-init
loop-heading-init c = record {
  kept = keeps_itself c.args.names.now;
  only = adds_itself (has_anchor c.args.headings.now) c.args.slot c.args.names.now;
  told = no_anchors c.args.names.now c.args.slot c.args.headings.now c.new-numbers.result c.new-numbers.ensures;
}

pub loop-heading-preserved : goal.loop-heading-preserved
loop-heading-preserved c = record {
  kept = keeps_then c.args.names.now c.loop-heading.names c.enter.new.self c.loop-heading.invariant.kept c.in_ok-number.ensures.kept;
  only = adds_then (has_anchor c.args.headings.now) (bytes_eq c.get.result.now) (has_anchor c.args.headings.now) c.args.slot
      c.args.names.now c.loop-heading.names c.enter.new.self (λ t has. has)
      (anchor_of_them c.args.headings.now c.loop-heading.heading-index c.heading-item.result c.get.result.now
      (omega (arith, c.loop-heading-test.true)) c.heading-item.is c.get.ensures)
      c.loop-heading.invariant.only c.in_ok-number.ensures.only;
  told = one_more_anchor c.loop-heading.names c.enter.new.self c.args.slot c.args.headings.now c.loop-heading.numbers c.set.new.self
      c.loop-heading.heading-index c.heading-item.result c.get.result.now c.in_ok-number.number
      (omega (arith, c.loop-heading-test.true)) c.heading-item.is c.get.ensures c.in_ok-number.ensures.kept
      c.in_ok-number.ensures.used c.in_ok-number.ensures.number c.in_ok-set.ensures.ok c.loop-heading.invariant.told;
}
