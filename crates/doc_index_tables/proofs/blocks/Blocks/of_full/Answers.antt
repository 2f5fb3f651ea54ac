use Rattle.doc_index_tables.proofs.HalfSteps.{of_two}
use Rattle.doc_index_tables.proofs.blocks.Blocks.of_full.Goals as goal

pub invariant_of-result : goal.invariant_of-result
invariant_of-result c =
    (of_two c.args.number c.args.value c.args.block.now c.in_ok-lower.lower c.in_ok-lower.upper c.in_ok-blocks.blocks.items
    c.push.new.self.items c.push-2.new.self.items c.len.result c.len-2.result c.in_ok-blocks.ensures.items c.in_ok-push.ensures.items
    c.in_ok-push-2.ensures.items c.in_ok-lower.ensures.blocks c.in_ok-lower.ensures.numbers c.len.ensures c.len-2.ensures).0

pub returns : goal.returns
returns c =
    (of_two c.args.number c.args.value c.args.block.now c.in_ok-lower.lower c.in_ok-lower.upper c.in_ok-blocks.blocks.items
    c.push.new.self.items c.push-2.new.self.items c.len.result c.len-2.result c.in_ok-blocks.ensures.items c.in_ok-push.ensures.items
    c.in_ok-push-2.ensures.items c.in_ok-lower.ensures.blocks c.in_ok-lower.ensures.numbers c.len.ensures c.len-2.ensures).1
