use Rattle.std.proofs.Common.{arith}
use Rattle.doc_links_names.specs.PageNumbers.{is_written, writes_text}
use Rattle.doc_links_names.proofs.NumberSteps.{one_more}
use Rattle.doc_links_names.proofs.TextSteps.{writes_one}
use Rattle.doc_links_names.proofs.Uses.{adds_then, keeps_then}
use Rattle.doc_links_names.proofs.link_numbers.link_numbers.Goals as goal

pub loop-link-preserved : goal.loop-link-preserved
loop-link-preserved c = record {
  kept = keeps_then c.args.names.now c.loop-link.names c.link_number.new.names c.loop-link.invariant.kept c.in_ok-link_number.ensures.kept;
  only = adds_then (is_written c.args.links.now) (λ t. writes_text t c.link-item.result) (is_written c.args.links.now) c.args.slot
      c.args.names.now c.loop-link.names c.link_number.new.names (λ t has. has)
      (writes_one c.args.links.now c.loop-link.link-index c.link-item.result (omega (arith, c.loop-link-test.true)) c.link-item.is)
      c.loop-link.invariant.only c.in_ok-link_number.ensures.only;
  told = one_more c.loop-link.names c.link_number.new.names c.args.slot c.args.links.now c.loop-link.pairs c.push.new.self
      c.loop-link.link-index c.link-item.result c.in_ok-link_number.field-0 (omega (arith, c.loop-link-test.true)) c.link-item.is
      c.in_ok-push.ensures.ok c.in_ok-link_number.ensures.kept c.loop-link.invariant.told c.in_ok-link_number.ensures.pair;
}
