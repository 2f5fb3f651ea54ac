use Rattle.doc_index_tables.proofs.CutSteps.{larger}
use Rattle.doc_index_tables.proofs.row.Row.set.Goals as goal

pub invariant_of-self-then-len-lt-BLOCK_LIMIT : goal.invariant_of-self-then-len-lt-BLOCK_LIMIT
invariant_of-self-then-len-lt-BLOCK_LIMIT c =
    larger c.set-then-len-lt-BLOCK_LIMIT.result c.args.number c.args.value c.len.result c.in-One.block
    c.set-then-len-lt-BLOCK_LIMIT.new.self c.set-then-len-lt-BLOCK_LIMIT.ensures.ok c.set-then-len-lt-BLOCK_LIMIT.ensures.err
    c.len.ensures c.if-len-lt-BLOCK_LIMIT.true
