use Rattle.std.proofs.Common.{◌∙◌, sym}
use Rattle.doc_index_tables.proofs.HalfSteps.{lower_set, upper_set}
use Rattle.doc_index_tables.proofs.block.Block.halves_with.Goals as goal

pub returns-then-begins_by-clause-blocks : goal.returns-then-begins_by-clause-blocks
returns-then-begins_by-clause-blocks c =
    (upper_set c.args.number c.args.value c.args.self.now c.in_ok-lower.lower c.in_ok-lower.upper c.requires.0 c.requires.1
    c.in_ok-lower.ensures.lower c.in_ok-lower.ensures.upper (sym c.begins_by.ensures ∙ c.if-begins_by.true) c.set.new.self
    c.in_ok-set.ensures.ok).0

pub returns-then-begins_by-clause-numbers : goal.returns-then-begins_by-clause-numbers
returns-then-begins_by-clause-numbers c =
    (upper_set c.args.number c.args.value c.args.self.now c.in_ok-lower.lower c.in_ok-lower.upper c.requires.0 c.requires.1
    c.in_ok-lower.ensures.lower c.in_ok-lower.ensures.upper (sym c.begins_by.ensures ∙ c.if-begins_by.true) c.set.new.self
    c.in_ok-set.ensures.ok).1

pub returns-clause-blocks : goal.returns-clause-blocks
returns-clause-blocks c =
    (lower_set c.args.number c.args.value c.args.self.now c.in_ok-lower.lower c.in_ok-lower.upper c.requires.0 c.requires.1
    c.in_ok-lower.ensures.lower c.in_ok-lower.ensures.upper (sym c.begins_by.ensures ∙ c.if-begins_by.false) c.set-2.new.self
    c.in_ok-set-2.ensures.ok).0

pub returns-clause-numbers : goal.returns-clause-numbers
returns-clause-numbers c =
    (lower_set c.args.number c.args.value c.args.self.now c.in_ok-lower.lower c.in_ok-lower.upper c.requires.0 c.requires.1
    c.in_ok-lower.ensures.lower c.in_ok-lower.ensures.upper (sym c.begins_by.ensures ∙ c.if-begins_by.false) c.set-2.new.self
    c.in_ok-set-2.ensures.ok).1
