use Rattle.std.proofs.Common.{◌∙◌, ap, is_some, sym}
use Rattle.doc_page_parts.proofs.Options.{is_some_false}
use Rattle.doc_index_tables.proofs.CutSteps.{count_taken, some_left, taken_is}
use Rattle.doc_index_tables.proofs.PlaceSteps.{none_removed}
use Rattle.doc_index_tables.proofs.blocks.Blocks.take.Goals as goal

pub returns-then-is_none : goal.returns-then-is_none
returns-then-is_none c =
    sym (none_removed c.args.self.now c.args.number (sym c.get.ensures ∙ is_some_false c.get.result c.if-is_none.ensures))

pub overflow_sub-self : goal.overflow_sub-self
overflow_sub-self c =
    some_left c.self.inside.blocks.items c.self.inside.count c.args.self.now c.self.invariant c.self.view_is c.args.number
    c.self.inside.blocks.items (ap is_some (sym c.get.ensures) ∙ c.if-is_none.ensures)

pub invariant_of-self : goal.invariant_of-self
invariant_of-self c = (
  c.take_in.ensures.blocks,
  count_taken c.self.inside.blocks.items c.self.inside.count c.args.self.now c.self.invariant c.self.view_is c.args.number
      c.take_in.new.blocks.items (ap is_some (sym c.get.ensures) ∙ c.if-is_none.ensures) c.take_in.ensures.rest,
)

pub returns : goal.returns
returns c =
    taken_is c.self.inside.blocks.items c.self.inside.count c.args.self.now c.self.invariant c.self.view_is c.args.number
    c.take_in.new.blocks.items c.take_in.ensures.rest
