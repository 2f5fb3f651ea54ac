use Rattle.doc_index_tables.proofs.HalfSteps.{first_block}
use Rattle.doc_index_tables.proofs.blocks.set_first.Goals as goal

pub returns-clause-blocks : goal.returns-clause-blocks
returns-clause-blocks c =
    (first_block c.args.number c.args.value c.args.blocks.now.items c.push.new.self.items c.new-block.result c.set.new.self c.requires
    c.in_ok-push.ensures.items c.new-block.ensures c.in_ok-set.ensures.ok).0

pub returns-clause-ok : goal.returns-clause-ok
returns-clause-ok c =
    (first_block c.args.number c.args.value c.args.blocks.now.items c.push.new.self.items c.new-block.result c.set.new.self c.requires
    c.in_ok-push.ensures.items c.new-block.ensures c.in_ok-set.ensures.ok).1
