use Rattle.std.proofs.Common.{◌≡◌, ◌∙◌, ◌≤◌, Bool, length}
use Rattle.std.proofs.Common.{ap, sym, subst, arith, Some, None}
use Rattle.doc_rules.specs.ContainerStarts.{quote_start}
use Rattle.doc_rules.specs.Trees.{Situation, leaf_begins}
use Rattle.doc_lines.specs.Cursors.{Position, left_of}
use Rattle.doc_blocks_starts.specs.Lines.{inside_of}
use Rattle.doc_blocks_leaves.specs.Starts.{start_of, start_shown}
use Rattle.doc_blocks.specs.StateSteps.{State, met, item_met, StepsTo}
use Rattle.doc_blocks.specs.BuilderSteps.{state_of}
use Rattle.doc_blocks.proofs.LevelLemmas.{length_stack}
use Rattle.doc_blocks.proofs.StateLaws as states
use Rattle.doc_blocks.proofs.builder.Builder.begin_one.Goals as goal

pub returns-then-begins_nothing-clause-steps : goal.returns-then-begins_nothing-clause-steps
returns-then-begins_nothing-clause-steps c =
    let s = state_of c.args.self.now in
    let line = left_of c.args.line.now in
    let rules = c.args.entities.now in
    let nothing = c.begins_nothing.ensures c.if-begins_nothing.true in
    λ room. states.steps_text rules room c.args.depth s (state_of c.put_text.new.self) line nothing.quote
    (nothing.leaf rules (met c.args.entities.now c.args.depth s)) (sym (ap (item_met
    (met c.args.entities.now c.args.depth s)) nothing.item)) c.in_ok-put_text.ensures.reached

pub returns-then-take_quote-clause-steps : goal.returns-then-take_quote-clause-steps
returns-then-take_quote-clause-steps c =
    let s = state_of c.args.self.now in
    let l = c.args.self.now.levels in
    let line = left_of c.args.line.now in
    let rules = c.args.entities.now in
    let inside = left_of c.take_quote.new.line in
    let within : c.args.depth ≤ length s.stack.outer = omega (arith, length_stack l) in
    let quote : quote_start line ≡ Some inside = sym c.take_quote.ensures.inside
    ∙ ap (λ (b : Bool). inside_of b c.take_quote.new.line) c.if-take_quote.true in
    λ room.
    let P : State → Type 0 = λ n. StepsTo rules room c.args.depth s line n (Some inside) in
    subst P (sym c.in_ok-begin_quote.ensures.state) (states.steps_quote rules room c.args.depth s line inside within quote)

pub returns-in-Some-clause-steps : goal.returns-in-Some-clause-steps
returns-in-Some-clause-steps c =
    let s = state_of c.args.self.now in
    let n = state_of c.begin_leaf.new.self in
    let line = left_of c.take_quote.new.line in
    let rules = c.args.entities.now in
    let stays : c.take_quote.new.line ≡ c.args.line.now = c.take_quote.ensures.stays c.if-take_quote.false in
    let none : quote_start line ≡ None = ap (λ (p : Position). quote_start (left_of p)) stays ∙ (sym c.take_quote.ensures.inside
    ∙ ap (λ (b : Bool). inside_of b c.take_quote.new.line) c.if-take_quote.false) in
    let a_leaf = ap (λ (t : Situation). leaf_begins rules t line) (sym c.met.ensures)
    ∙ (sym c.in_ok-start.ensures ∙ ap (start_of line) c.in-Some.is) in
    λ room. subst (λ (p : Position). StepsTo rules room c.args.depth s (left_of p) n None) stays
    (states.steps_leaf rules room c.args.depth s n line (start_shown line c.in-Some.start) none a_leaf c.in_ok-begin_leaf.ensures.reached)

pub begin_item_or_text-requires-clause-quote : goal.begin_item_or_text-requires-clause-quote
begin_item_or_text-requires-clause-quote c =
    ap (λ (p : Position). quote_start (left_of p)) (c.take_quote.ensures.stays c.if-take_quote.false) ∙ (sym c.take_quote.ensures.inside
    ∙ ap (λ (b : Bool). inside_of b c.take_quote.new.line) c.if-take_quote.false)

pub begin_item_or_text-requires-clause-leaf : goal.begin_item_or_text-requires-clause-leaf
begin_item_or_text-requires-clause-leaf c =
    let line = left_of c.take_quote.new.line in
    ap (λ (t : Situation). leaf_begins c.args.entities.now t line) (sym c.met.ensures)
    ∙ (sym c.in_ok-start.ensures ∙ ap (start_of line) c.in_default.is)

pub returns-clause-steps : goal.returns-clause-steps
returns-clause-steps c =
    let s = state_of c.args.self.now in
    let n = state_of c.begin_item_or_text.new.self in
    let rules = c.args.entities.now in
    λ room. subst (λ (p : Position). StepsTo rules room c.args.depth s (left_of p) n
    (inside_of c.in_ok-inside.inside c.begin_item_or_text.new.line)) (c.take_quote.ensures.stays c.if-take_quote.false)
    (c.in_ok-inside.ensures.steps room)
