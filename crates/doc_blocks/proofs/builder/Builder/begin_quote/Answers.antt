use Rattle.std.proofs.Common.{◌∙◌, refl}
use Rattle.std.proofs.Common.{ap}
use Rattle.doc_blocks_leaves.specs.Paths.{OpenQuote}
use Rattle.doc_blocks.specs.StackSteps.{Stack, block_begun, container_opened}
use Rattle.doc_blocks.specs.StateSteps.{State}
use Rattle.doc_blocks.specs.LevelSteps.{stack_of}
use Rattle.doc_blocks.proofs.BuilderLaws as laws
use Rattle.doc_blocks.proofs.builder.Builder.begin_quote.Goals as goal

pub returns-clause-state : goal.returns-clause-state
returns-clause-state c =
    let m = c.close_to.new.self in
    laws.same_state (stack_of c.open.new.self) _ m.leaf _ m.refs _ (c.in_ok-open.ensures.stack
    ∙ ap (λ (t : Stack). container_opened t OpenQuote) c.in_ok-begin_block.ensures.stack) refl refl
    ∙ ap (λ (t : State). record t { stack = container_opened (block_begun t.stack) OpenQuote }) c.in_ok-close_to.ensures.state
