use Rattle.doc_index_tables.proofs.SingleSteps.{two_at_most}
use Rattle.doc_index_tables.proofs.single.Single.with.Goals as goal

pub returns-clause-few : goal.returns-clause-few
returns-clause-few c =
    two_at_most c.args.number c.args.value c.in_ok-block.block c.set.new.self c.in_ok-block.ensures.few c.in_ok-set.ensures.ok
