use Rattle.std.proofs.Common.{arith}
use Rattle.std.proofs.lemmas.Str.{IsCharBoundary-start}
use Rattle.doc_people_pages.proofs.InertSteps.{cut_behind, last_run, none_disarmed, run_ends, run_grows}
use Rattle.doc_people_pages.proofs.inert.push_disarmed.Goals as goal

pub loop-i-init : goal.loop-i-init
loop-i-init c = record {
  before = omega arith;
  boundary = IsCharBoundary-start c.args.html.now c.utf8.html;
  written = none_disarmed c.args.html.now _ _ c.in_ok-reserve.ensures.bytes;
}

pub loop-i-preserved-then-not-begins_at : goal.loop-i-preserved-then-not-begins_at
loop-i-preserved-then-not-begins_at c =
    let within = rw c.as_bytes-bytes.ensures.value at c.loop-i-test.true in
    let tested = rw c.as_bytes-bytes.ensures.value at c.begins_at.ensures in
    record {
      before = omega arith;
      boundary = c.loop-i.invariant.boundary;
      written = run_grows c.args.html.now _ _ _ _ _ c.loop-i.invariant.before within tested c.if-not-begins_at.true
          c.loop-i.invariant.written;
    }

pub loop-i-preserved : goal.loop-i-preserved
loop-i-preserved c =
    let within = rw c.as_bytes-bytes.ensures.value at c.loop-i-test.true in
    let tested = rw c.as_bytes-bytes.ensures.value at c.begins_at.ensures in
    record {
      before = omega arith;
      boundary = cut_behind c.args.html.now _ _ c.utf8.html within tested c.if-not-begins_at.false;
      written = run_ends c.args.html.now _ _ _ _ _ _ _ _ within tested c.if-not-begins_at.false c.range.ensures.value
          c.in_ok-push_str.ensures.bytes c.in_ok-push_str-2.ensures.bytes c.loop-i.invariant.written;
    }

pub returns : goal.returns
returns c =
    last_run c.args.html.now _ _ _ _ _ _ (rw c.as_bytes-bytes.ensures.value at c.loop-i-test.false) c.loop-i.invariant.before
    c.range_from.ensures.value c.in_ok-push_str-3.ensures.bytes c.loop-i.invariant.written
