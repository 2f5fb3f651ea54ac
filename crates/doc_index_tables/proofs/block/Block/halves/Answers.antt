use Rattle.doc_index_tables.proofs.HalfSteps.{lower_half, upper_half}
use Rattle.doc_index_tables.proofs.block.Block.halves.Goals as goal

pub invariant_of-lower : goal.invariant_of-lower
invariant_of-lower c =
    (lower_half c.self.inside.entries c.self.invariant c.args.self.now c.self.view_is c.len-half.result c.len-half.ensures
    c.in_ok-before.field-0 c.in_ok-before.ensures).0

pub invariant_of-upper : goal.invariant_of-upper
invariant_of-upper c =
    (upper_half c.self.inside.entries c.self.invariant c.args.self.now c.self.view_is c.len-half.result c.len-half.ensures
    c.in_ok-behind.field-0 c.in_ok-behind.ensures).0

pub returns-clause-lower : goal.returns-clause-lower
returns-clause-lower c =
    (lower_half c.self.inside.entries c.self.invariant c.args.self.now c.self.view_is c.len-half.result c.len-half.ensures
    c.in_ok-before.field-0 c.in_ok-before.ensures).1

pub returns-clause-upper : goal.returns-clause-upper
returns-clause-upper c =
    (upper_half c.self.inside.entries c.self.invariant c.args.self.now c.self.view_is c.len-half.result c.len-half.ensures
    c.in_ok-behind.field-0 c.in_ok-behind.ensures).1
