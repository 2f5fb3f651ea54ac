use Rattle.std.proofs.Common.{arith}
use Rattle.std.proofs.lemmas.Str.{IsCharBoundary-start}
use Rattle.doc_page_parts.proofs.BufferSteps.{front_same, front_grows}
use Rattle.doc_page_parts.proofs.EscapingSteps.{escaped_none, run_grows, run_ends, cut_after}
use Rattle.doc_page_parts.proofs.escaping.push_escaped.Goals as goal

pub loop-i-init : goal.loop-i-init
loop-i-init c = record {
  front = front_same _ _ c.reserve.ensures.bytes;
  before = omega arith;
  boundary = IsCharBoundary-start c.args.text.now c.utf8.text;
  written = escaped_none c.args.text.now _ _ c.reserve.ensures.bytes;
}

pub loop-i-preserved-in_default : goal.loop-i-preserved-in_default
loop-i-preserved-in_default c = record {
  front = c.loop-i.invariant.front;
  before = omega arith;
  boundary = c.loop-i.invariant.boundary;
  written = run_grows _ _ c.args.text.now _ c.loop-i.start c.loop-i.i c.as_bytes-byte-items.ensures.value c.loop-i.invariant.before
      c.loop-i-test.true c.in_default.ensures.plain c.loop-i.invariant.written;
}

pub loop-i-preserved : goal.loop-i-preserved
loop-i-preserved c = record {
  front = front_grows _ _ _ _ (front_grows _ _ _ _ c.loop-i.invariant.front c.in_ok-push_str.ensures.bytes)
      c.in_ok-push_str-2.ensures.bytes;
  before = omega arith;
  boundary = cut_after c.args.text.now _ c.loop-i.i c.utf8.text c.as_bytes-byte-items.ensures.value c.loop-i-test.true
      c.in-Some.ensures.ascii;
  written = run_ends _ _ _ _ c.args.text.now _ _ _ c.loop-i.start c.loop-i.i c.as_bytes-byte-items.ensures.value c.loop-i-test.true
      c.in-Some.ensures.written c.range.ensures.value c.in_ok-push_str.ensures.bytes c.in_ok-push_str-2.ensures.bytes
      c.loop-i.invariant.written;
}
