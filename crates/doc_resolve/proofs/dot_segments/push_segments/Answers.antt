use Rattle.std.proofs.Common.{◌∙◌, ◌++◌, ap, lit<}
use Rattle.std.proofs.lemmas.Iterator.Consumers.{YieldsList-end}
use Rattle.std.proofs.lemmas.Iterator.Splits.{YieldsList-from_str_split}
use Rattle.doc_resolve.proofs.DotSteps.{texts}
use Rattle.doc_resolve.proofs.dot_segments.push_segments.Goals as goal

pub returns : goal.returns
returns c =
    let all = YieldsList-end (YieldsList-from_str_split 47 c.args.path.now (lit< tt) (cc) (cc) (cc)) c.loop-segment.yielded _
    c.loop-segment.yielded_by _ _ c.in-None.is c.next.ensures.steps in
    c.loop-segment.invariant ∙ ap (λ more. texts c.args.out.now.items ++ more) all.0
