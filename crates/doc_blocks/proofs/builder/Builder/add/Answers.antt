use Rattle.std.proofs.Common.{◌≡◌, ◌-◌, ◌≤◌, length, refl}
use Rattle.std.proofs.Common.{ap, subst, arith}
use Rattle.std.proofs.lemmas.List.{length-drop}
use Rattle.doc_lines.specs.Cursors.{left_of}
use Rattle.doc_blocks.specs.StateSteps.{State, below, met, shown, reached}
use Rattle.doc_blocks.specs.BuilderSteps.{state_of}
use Rattle.doc_blocks.specs.LevelSteps.{stack_of}
use Rattle.doc_blocks.proofs.LevelLemmas.{length_stack}
use Rattle.doc_blocks.proofs.LeafLaws as leaves
use Rattle.doc_blocks_leaves.specs.OpenBlocks.{start_step}
use Rattle.doc_blocks.proofs.builder.Builder.add.Goals as goal

pub returns-then-depth-clause-line : goal.returns-then-depth-clause-line
returns-then-depth-clause-line c =
    let g = c.go_down-depth.new.self in
    let old = state_of c.args.self.now in
    let s : State = record old { stack = stack_of g } in
    let depth = c.go_down-depth.result in
    let within : depth ≤ length s.stack.outer = omega (arith, length_stack g) in
    leaves.line_begins c.args.entities.now (left_of c.args.line.now) (left_of c.go_down-depth.new.line) depth old s
    (state_of c.begin.new.self) c.go_down-depth.ensures.goes refl refl within
    (λ e. absurd (omega (arith, ap length e, length-drop depth s.stack.outer, length_stack g)))
    c.in_ok-begin.ensures.reached

pub returns-then-branch-clause-line : goal.returns-then-branch-clause-line
returns-then-branch-clause-line c =
    let g = c.go_down-depth.new.self in
    let old = state_of c.args.self.now in
    let s : State = record old { stack = stack_of g } in
    let depth = c.go_down-depth.result in
    let within : depth ≤ length s.stack.outer = omega (arith, length_stack g) in
    let all : length s.stack.outer ≤ depth = omega (arith, length_stack g) in
    leaves.line_taken c.args.entities.now (left_of c.args.line.now) (left_of c.go_down-depth.new.line) depth old s
    (state_of c.is_taken.new.self) c.go_down-depth.ensures.goes refl refl within all
    (λ room nothing. c.in_ok-is_taken.ensures.yes c.if-branch.true room depth nothing)

pub returns-clause-line : goal.returns-clause-line
returns-clause-line c =
    let g = c.go_down-depth.new.self in
    let old = state_of c.args.self.now in
    let s : State = record old { stack = stack_of g } in
    let depth = c.go_down-depth.result in
    let rest = left_of c.go_down-depth.new.line in
    let rules = c.args.entities.now in
    let n = state_of c.begin-2.new.self in
    let within : depth ≤ length s.stack.outer = omega (arith, length_stack g) in
    let no = c.in_ok-is_taken.ensures.no c.if-branch.false in
    let R : State → Type 0 = λ t. reached depth t (start_step (100 - depth) rules (met c.args.entities.now depth t) rest
    (below depth t)) ≡ shown n in
    leaves.line_begins rules (left_of c.args.line.now) rest depth old s n c.go_down-depth.ensures.goes refl refl within (λ e. no.1)
    (subst R no.0 c.in_ok-begin-2.ensures.reached)
