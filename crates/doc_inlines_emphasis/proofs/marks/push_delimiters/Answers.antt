use Rattle.std.proofs.Common.{◌≡◌, ◌+◌, replicate, subst, arith}
use Rattle.doc_inlines_emphasis.specs.RunSteps.{delimiter}
use Rattle.doc_inlines_emphasis.specs.Texts.{AddsEach}
use Rattle.doc_inlines_emphasis.proofs.MarkLaws.{adds_none, adds_more}
use Rattle.doc_inlines_emphasis.proofs.marks.push_delimiters.Goals as goal

pub loop-init : goal.loop-init
loop-init c = adds_none c.args.marks.now.items (delimiter c.args.delimiter)

pub loop-preserved : goal.loop-preserved
loop-preserved c =
    adds_more c.args.marks.now.items c.loop.marks.items c.push.new.self.items c.loop.counter (c.loop.counter + 1) (delimiter c.args.delimiter) _
    c.loop.invariant c.in_ok-push.ensures.items c.text-text.ensures (omega arith)

pub returns : goal.returns
returns c =
    let all : c.loop.counter ≡ c.args.length = omega arith in
    subst (λ k. AddsEach c.args.marks.now.items c.loop.marks.items (replicate k (delimiter c.args.delimiter))) all c.loop.invariant
