use Rattle.std.proofs.Common.{◌∙◌, sym, ap, arith}
use Rattle.std.proofs.lemmas.List.{length-map}
use Rattle.doc_resolve.specs.WrittenPathSteps.{decoded_segments}
use Rattle.doc_resolve.proofs.DotSteps.{texts, text_at}
use Rattle.doc_resolve.proofs.WrittenPathSteps.{onto, onto-nil, decoded-more, decoded-none, decoded-all}
use Rattle.doc_resolve.proofs.written_paths.decoded_segments.Goals as goal

pub loop-segment-init : goal.loop-segment-init
loop-segment-init c =
    let decoded = decoded_segments (texts c.args.parts.now) in
    onto-nil decoded ∙ ap (λ text. onto text decoded) (sym c.in_ok-text.ensures.items)

pub returns-then-not-branch : goal.returns-then-not-branch
returns-then-not-branch c =
    let bad = sym c.in_ok-push_segment.ensures.good ∙ c.if-not-branch.true in
    sym (decoded-none (texts c.args.parts.now) c.loop-segment.segment-index c.loop-segment.text.items _
    (text_at c.args.parts.now c.loop-segment.segment-index _ (omega arith)) bad c.loop-segment.invariant)

pub loop-segment-preserved : goal.loop-segment-preserved
loop-segment-preserved c =
    let good = sym c.in_ok-push_segment.ensures.good ∙ c.if-not-branch.false in
    rw c.in_ok-push_segment.ensures.text
    (decoded-more (texts c.args.parts.now) c.loop-segment.segment-index c.loop-segment.text.items _
    (text_at c.args.parts.now c.loop-segment.segment-index _ (omega arith)) good c.loop-segment.invariant)

pub returns : goal.returns
returns c =
    let len = length-map c.args.parts.now (λ s. s.now) in
    sym (decoded-all (texts c.args.parts.now) c.loop-segment.segment-index c.loop-segment.text.items (omega arith) c.loop-segment.invariant)
