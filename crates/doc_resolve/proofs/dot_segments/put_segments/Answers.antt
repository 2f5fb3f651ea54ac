use Rattle.std.proofs.Common.{◌∙◌, ap, sym, refl, lit<}
use Rattle.std.proofs.lemmas.Iterator.Consumers.{YieldsList-end}
use Rattle.std.proofs.lemmas.Iterator.Splits.{YieldsList-from_str_split}
use Rattle.doc_resolve.specs.DotSegments.{put_all, ends_in_dots}
use Rattle.doc_resolve.proofs.DotSteps.{texts, put_all-none, put_out-next, ends_in_dots-next}
use Rattle.doc_resolve.proofs.dot_segments.put_segments.Goals as goal

pub loop-segment-init : goal.loop-segment-init
loop-segment-init c = (sym (put_all-none (texts c.args.out.now.items)), refl)

pub loop-segment-preserved : goal.loop-segment-preserved
loop-segment-preserved c =
    let done = c.loop-segment.yielded in
    let s = c.in-Some.segment in (
      put_out-next done s (texts c.args.out.now.items) (texts c.loop-segment.out.items) (texts c.put_out.new.out.items)
          c.loop-segment.invariant.0 c.in_ok-put_out.ensures,
      c.is_dots-dots.ensures ∙ sym (ends_in_dots-next done s),
    )

pub returns-clause-out : goal.returns-clause-out
returns-clause-out c =
    let all = YieldsList-end (YieldsList-from_str_split 47 c.args.path.now (lit< tt) (cc) (cc) (cc)) c.loop-segment.yielded _
    c.loop-segment.yielded_by _ _ c.in-None.is c.next.ensures.steps in
    c.loop-segment.invariant.0 ∙ ap (put_all (texts c.args.out.now.items)) all.0

pub returns-clause-dots : goal.returns-clause-dots
returns-clause-dots c =
    let all = YieldsList-end (YieldsList-from_str_split 47 c.args.path.now (lit< tt) (cc) (cc) (cc)) c.loop-segment.yielded _
    c.loop-segment.yielded_by _ _ c.in-None.is c.next.ensures.steps in
    c.loop-segment.invariant.1 ∙ ap ends_in_dots all.0
