use Rattle.std.proofs.Common.{◌≡◌, ◌∙◌, ◌≤◌, Bool, true, false, length}
use Rattle.std.proofs.Common.{ap, sym, subst, arith, Some, None}
use Rattle.doc_rules.specs.Columns.{is_blank_line}
use Rattle.doc_rules.specs.ContainerStarts.{item_start}
use Rattle.doc_blocks_starts.specs.Items.{item_shown}
use Rattle.doc_lines.specs.Cursors.{left_of}
use Rattle.doc_blocks.specs.StateSteps.{State, StepsTo, item_opened, item_met, met}
use Rattle.doc_blocks.specs.BuilderSteps.{state_of}
use Rattle.doc_blocks.proofs.LevelLemmas.{length_stack}
use Rattle.doc_blocks.proofs.StateLaws as states
use Rattle.doc_blocks.proofs.builder.Builder.begin_item_or_text.Goals as goal

pub returns-in_default-clause-steps : goal.returns-in_default-clause-steps
returns-in_default-clause-steps c =
    let s = state_of c.args.self.now in
    let line = left_of c.args.line.now in
    let same : _ = ap (λ here. item_met (met c.args.entities.now c.args.depth s) (item_start (left_of here))) c.copy-inside.ensures in
    λ room. states.steps_text c.args.entities.now room c.args.depth s (state_of c.put_text.new.self) line c.requires.quote c.requires.leaf
    (c.in_default.ensures ∙ same) c.in_ok-put_text.ensures.reached

pub returns-then-is_blank_line-clause-steps : goal.returns-then-is_blank_line-clause-steps
returns-then-is_blank_line-clause-steps c =
    let s = state_of c.args.self.now in
    let l = c.args.self.now.levels in
    let line = left_of c.args.line.now in
    let rules = c.args.entities.now in
    let within : c.args.depth ≤ length s.stack.outer = omega (arith, length_stack l) in
    let item = item_shown c.in-Some.item c.take_item.new.line in
    let blank : is_blank_line item.first ≡ true = sym c.is_blank_line.ensures ∙ c.if-is_blank_line.true in
    let same : _ = ap (λ here. item_met (met c.args.entities.now c.args.depth s) (item_start (left_of here))) c.copy-inside.ensures in
    λ room.
    let P : State → Type 0 = λ n. StepsTo rules room c.args.depth s line n None in
    subst P (ap (λ (b : Bool). item_opened rules c.args.depth s item.kind item.start item.columns b) blank
    ∙ sym c.in_ok-begin_item.ensures.state)
    (states.steps_blank_item rules room c.args.depth s line item within c.requires.quote c.requires.leaf (c.in-Some.ensures ∙ same) blank)

pub returns-clause-steps : goal.returns-clause-steps
returns-clause-steps c =
    let s = state_of c.args.self.now in
    let l = c.args.self.now.levels in
    let line = left_of c.args.line.now in
    let rules = c.args.entities.now in
    let within : c.args.depth ≤ length s.stack.outer = omega (arith, length_stack l) in
    let item = item_shown c.in-Some.item c.take_item.new.line in
    let some : is_blank_line item.first ≡ false = sym c.is_blank_line.ensures ∙ c.if-is_blank_line.false in
    let same : _ = ap (λ here. item_met (met c.args.entities.now c.args.depth s) (item_start (left_of here))) c.copy-inside.ensures in
    λ room.
    let P : State → Type 0 = λ n. StepsTo rules room c.args.depth s line n (Some item.first) in
    subst P (ap (λ (b : Bool). item_opened rules c.args.depth s item.kind item.start item.columns b) some
    ∙ sym c.in_ok-begin_item-2.ensures.state)
    (states.steps_item rules room c.args.depth s line item within c.requires.quote c.requires.leaf (c.in-Some.ensures ∙ same) some)
