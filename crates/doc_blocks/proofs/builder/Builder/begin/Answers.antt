use Rattle.std.proofs.Common.{◌≡◌, ◌∙◌, ℕ, ◌+◌, ◌-◌, Bool, suc}
use Rattle.std.proofs.Common.{ap, subst, arith}
use Rattle.doc_lines.specs.Cursors.{left_of}
use Rattle.doc_blocks.specs.StateSteps.{below, met, reached, StepsTo}
use Rattle.doc_blocks.specs.BuilderSteps.{state_of, IsBegun}
use Rattle.doc_blocks_leaves.specs.OpenBlocks.{start_step}
use Rattle.doc_blocks_starts.specs.Lines.{inside_of}
use Rattle.doc_blocks.proofs.builder.Builder.begin.Goals as goal

pub returns-then-not-branch-clause-reached : goal.returns-then-not-branch-clause-reached
returns-then-not-branch-clause-reached c =
    let s = state_of c.containers.self in
    let n = state_of c.begin_one.new.self in
    let line = left_of c.containers.line in
    let rules = c.args.entities.now in
    let depth = c.containers.depth in
    let room : 100 - depth ≡ suc (100 - (depth + 1)) = omega arith in
    let P : Bool → Type 0 = λ b. (k : ℕ) → StepsTo rules k depth s line n (inside_of b c.begin_one.new.line) in
    c.containers.invariant.reached
    ∙ (ap (λ (k : ℕ). reached depth s (start_step k rules (met c.args.entities.now depth s) line (below depth s))) room
    ∙ subst P c.if-not-branch.true c.in_ok-begin_one.ensures.steps (100 - (depth + 1)))

pub containers-preserved : goal.containers-preserved
containers-preserved c =
    let s = state_of c.containers.self in
    let n = state_of c.begin_one.new.self in
    let line = left_of c.containers.line in
    let rules = c.args.entities.now in
    let depth = c.containers.depth in
    let room : 100 - depth ≡ suc (100 - (depth + 1)) = omega arith in
    let P : Bool → Type 0 = λ b. (k : ℕ) → StepsTo rules k depth s line n (inside_of b c.begin_one.new.line) in
    let Q : Bool → Type 0 = λ b. IsBegun c.begin_one.new.self (depth + 1) (inside_of b c.begin_one.new.line) in
    record {
      ready = subst Q c.if-not-branch.false c.in_ok-begin_one.ensures.ready;
      reached = c.containers.invariant.reached
          ∙ (ap (λ (k : ℕ). reached depth s (start_step k rules (met c.args.entities.now depth s) line (below depth s))) room
          ∙ subst P c.if-not-branch.false c.in_ok-begin_one.ensures.steps (100 - (depth + 1)));
    }

pub returns-clause-reached : goal.returns-clause-reached
unfolding start_step
returns-clause-reached c =
    let s = state_of c.containers.self in
    let line = left_of c.containers.line in
    let rules = c.args.entities.now in
    let depth = c.containers.depth in
    let room : 100 - depth ≡ 0 = omega arith in
    c.containers.invariant.reached
    ∙ (ap (λ (k : ℕ). reached depth s (start_step k rules (met c.args.entities.now depth s) line (below depth s))) room
    ∙ c.in_ok-put_leaf.ensures.reached)
