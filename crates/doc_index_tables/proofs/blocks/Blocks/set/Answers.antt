use Rattle.std.proofs.Common.{◌∙◌, ap, is_some, sym}
use Rattle.doc_index_tables.proofs.CutSteps.{count_new, counted_on, known_set, set_is}
use Rattle.doc_index_tables.proofs.TableSteps.{on_ok}
use Rattle.doc_index_tables.proofs.blocks.Blocks.set.Goals as goal

pub invariant_of-self : goal.invariant_of-self
invariant_of-self c =
    known_set c.set_in.result c.self.inside.blocks.items c.set_in.new.blocks.items c.self.inside.count c.args.self.now c.self.invariant
    c.self.view_is c.args.number c.args.value (ap is_some (sym c.get.ensures) ∙ sym c.is_some.ensures ∙ c.if-is_some.true)
    c.set_in.ensures.blocks c.set_in.ensures.ok c.set_in.ensures.err

pub returns-then-is_some-clause-ok : goal.returns-then-is_some-clause-ok
returns-then-is_some-clause-ok c =
    on_ok c.set_in.result (λ put.
    set_is c.self.inside.blocks.items c.self.inside.count c.args.self.now c.self.invariant c.self.view_is c.args.number
    c.set_in.new.blocks.items c.args.value put) c.set_in.ensures.ok

pub invariant_of-self-2 : goal.invariant_of-self-2
invariant_of-self-2 c = (
  c.in_ok-set_in.ensures.blocks,
  counted_on c.checked_add.result c.in_ok-count.count c.self.inside.count c.checked_add.ensures c.in_ok-count.ensures.ok_part
      ∙ count_new c.self.inside.blocks.items c.self.inside.count c.args.self.now c.self.invariant c.self.view_is c.args.number
      c.set_in-2.new.blocks.items c.args.value (ap is_some (sym c.get.ensures) ∙ sym c.is_some.ensures ∙ c.if-is_some.false)
      c.in_ok-set_in.ensures.ok,
)

pub returns-clause-ok : goal.returns-clause-ok
returns-clause-ok c =
    set_is c.self.inside.blocks.items c.self.inside.count c.args.self.now c.self.invariant c.self.view_is c.args.number
    c.set_in-2.new.blocks.items c.args.value c.in_ok-set_in.ensures.ok
