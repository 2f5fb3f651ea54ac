use Rattle.std.proofs.Common.{◌∙◌, refl}
use Rattle.std.proofs.Common.{ap}
use Rattle.doc_blocks_leaves.specs.Paths.{OpenItem}
use Rattle.doc_blocks_starts.specs.Items.{kind_of}
use Rattle.doc_blocks.specs.StackSteps.{Stack, item_begun, container_opened}
use Rattle.doc_blocks.specs.StateSteps.{State}
use Rattle.doc_blocks.specs.LevelSteps.{stack_of}
use Rattle.doc_blocks.proofs.BuilderLaws as laws
use Rattle.doc_blocks.proofs.builder.Builder.begin_item.Goals as goal

pub returns-clause-state : goal.returns-clause-state
returns-clause-state c =
    let m = c.close_to.new.self in
    let item = c.args.item in
    laws.same_state (stack_of c.open.new.self) _ m.leaf _ m.refs _
    (c.in_ok-open.ensures.stack
    ∙ ap (λ (t : Stack). container_opened t (OpenItem item.columns c.args.is_empty)) c.in_ok-begin_item.ensures.stack)
    refl refl
    ∙ ap (λ (t : State). record t {
      stack = container_opened (item_begun t.stack (kind_of item.kind) item.start)
          (OpenItem item.columns c.args.is_empty);
    }) c.in_ok-close_to.ensures.state
