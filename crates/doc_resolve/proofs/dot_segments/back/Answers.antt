use Rattle.std.proofs.Common.{◌∙◌}
use Rattle.doc_resolve.proofs.DotSteps.{popped_back}
use Rattle.doc_resolve.proofs.dot_segments.back.Goals as goal

pub returns : goal.returns
returns c =
    popped_back c.args.out.now.items c.pop.new.self.items c.pop.result c.args.out.now.len c.args.out.now.ok.0
    (λ e. c.if-len-eq1.false (c.len.ensures ∙ e)) c.pop.ensures.items c.pop.ensures.variant
