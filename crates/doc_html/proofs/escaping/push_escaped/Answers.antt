use Rattle.std.proofs.Common.{◌∙◌, refl, sym, arith}
use Rattle.std.proofs.lemmas.Str.{IsCharBoundary-start}
use Rattle.doc_page_parts.proofs.EscapingSteps.{escaped_none, run_grows, run_ends, cut_after}
use Rattle.doc_html.proofs.EscapeLaws.{escaped_is_ascii, written_as_it_is}
use Rattle.doc_html.proofs.escaping.push_escaped.Goals as goal

pub loop-i-init : goal.loop-i-init
loop-i-init c = record {
  before = omega arith;
  boundary = IsCharBoundary-start c.args.text.now c.utf8.text;
  written = escaped_none c.args.text.now _ _ refl;
}

pub loop-i-preserved-then-not-is_escaped : goal.loop-i-preserved-then-not-is_escaped
loop-i-preserved-then-not-is_escaped c = record {
  before = omega arith;
  boundary = c.loop-i.invariant.boundary;
  written = run_grows _ _ c.args.text.now _ c.loop-i.start c.loop-i.i c.as_bytes-byte-items.ensures.value c.loop-i.invariant.before
      c.loop-i-test.true (written_as_it_is _ (sym c.is_escaped.ensures ∙ c.if-not-is_escaped.true)) c.loop-i.invariant.written;
}

pub loop-i-preserved : goal.loop-i-preserved
loop-i-preserved c = record {
  before = omega arith;
  boundary = cut_after c.args.text.now _ c.loop-i.i c.utf8.text c.as_bytes-byte-items.ensures.value c.loop-i-test.true
      (escaped_is_ascii _ (sym c.is_escaped.ensures ∙ c.if-not-is_escaped.false));
  written = run_ends _ _ _ _ c.args.text.now _ _ _ c.loop-i.start c.loop-i.i c.as_bytes-byte-items.ensures.value c.loop-i-test.true
      c.reference.ensures c.range.ensures.value c.in_ok-push_str.ensures.bytes c.in_ok-push_str-2.ensures.bytes
      c.loop-i.invariant.written;
}
