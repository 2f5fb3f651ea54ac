use Rattle.std.proofs.Common.{◌∙◌, refl}
use Rattle.std.proofs.Common.{ap}
use Rattle.doc_blocks.specs.PathSteps.{closed_to}
use Rattle.doc_blocks.specs.StateSteps.{State}
use Rattle.doc_blocks.specs.LevelSteps.{stack_of}
use Rattle.doc_blocks.proofs.BuilderLaws as laws
use Rattle.doc_blocks.proofs.builder.Builder.close_to.Goals as goal

pub returns-clause-state : goal.returns-clause-state
returns-clause-state c =
    laws.same_state (stack_of c.close_to.new.self) _ c.close_leaf.new.self.leaf _ c.close_leaf.new.self.refs _
    c.in_ok-close_to.ensures.stack refl refl
    ∙ ap (λ (t : State). record t { stack = closed_to c.args.depth t.stack }) c.in_ok-close_leaf.ensures.state
