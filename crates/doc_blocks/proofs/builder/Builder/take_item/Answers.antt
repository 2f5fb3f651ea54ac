use Rattle.std.proofs.Common.{◌∙◌, true}
use Rattle.std.proofs.Common.{ap, sym}
use Rattle.doc_blocks_starts.specs.Items.{item_shown}
use Rattle.doc_blocks.specs.StateSteps.{met, item_met}
use Rattle.doc_blocks.specs.BuilderSteps.{state_of}
use Rattle.doc_blocks.proofs.BuilderLaws as laws
use Rattle.doc_blocks.proofs.builder.Builder.take_item.Goals as goal

pub returns-then-not-is_in_paragraph : goal.returns-then-not-is_in_paragraph
returns-then-not-is_in_paragraph c =
    let situation = met c.args.entities.now c.args.depth (state_of c.args.self.now) in
    sym (laws.item_free situation _ (item_shown c.in_ok-item.item c.take_item.new.line) c.is_in_paragraph.ensures
    c.if-not-is_in_paragraph.true)
    ∙ ap (item_met situation) c.in_ok-item.ensures

pub returns-then-not-may_interrupt : goal.returns-then-not-may_interrupt
returns-then-not-may_interrupt c =
    let situation = met c.args.entities.now c.args.depth (state_of c.args.self.now) in
    sym (laws.item_refused situation _ (item_shown c.in_ok-item.item c.take_item.new.line) c.is_in_paragraph.ensures
    c.if-not-is_in_paragraph.false (sym c.may_interrupt.ensures ∙ c.if-not-may_interrupt.true))
    ∙ ap (item_met situation) c.in_ok-item.ensures

pub returns : goal.returns
returns c =
    let situation = met c.args.entities.now c.args.depth (state_of c.args.self.now) in
    sym (laws.item_interrupts situation true (item_shown c.in_ok-item.item c.take_item.new.line)
    (sym c.may_interrupt.ensures ∙ c.if-not-may_interrupt.false))
    ∙ ap (item_met situation) c.in_ok-item.ensures
