use Rattle.doc_index_tables.proofs.SingleSteps.{block_of_none, block_of_one, one_at_most}
use Rattle.doc_index_tables.proofs.single.Single.block.Goals as goal

pub returns-in_default-clause-same : goal.returns-in_default-clause-same
returns-in_default-clause-same c =
    block_of_none c.self.inside.entry c.args.self.now c.self.view_is c.in_ok-block.block c.in_ok-block.ensures c.in_default.is

pub returns-in_default-clause-few : goal.returns-in_default-clause-few
returns-in_default-clause-few c =
    one_at_most c.self.inside.entry c.args.self.now c.self.view_is c.in_ok-block.block
    (block_of_none c.self.inside.entry c.args.self.now c.self.view_is c.in_ok-block.block c.in_ok-block.ensures c.in_default.is)

pub returns-clause-same : goal.returns-clause-same
returns-clause-same c =
    block_of_one c.self.inside.entry c.args.self.now c.self.view_is c.in-Some.number c.in-Some.value c.in_ok-block.block c.set.new.self
    c.in_ok-block.ensures c.in_ok-set.ensures.ok c.in-Some.is

pub returns-clause-few : goal.returns-clause-few
returns-clause-few c =
    one_at_most c.self.inside.entry c.args.self.now c.self.view_is c.set.new.self
    (block_of_one c.self.inside.entry c.args.self.now c.self.view_is c.in-Some.number c.in-Some.value c.in_ok-block.block c.set.new.self
    c.in_ok-block.ensures c.in_ok-set.ensures.ok c.in-Some.is)
