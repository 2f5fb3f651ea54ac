use Rattle.doc_media.proofs.KindSteps.{kind_found, kind_not_found}
use Rattle.doc_media.proofs.kind.kind_in.Goals as goal

pub returns-then-is_extension : goal.returns-then-is_extension
returns-then-is_extension c =
    kind_found c.args.rows.now c.args.extension.now c.loop-name.name-index _ c.is_extension.result c.loop-name.invariant
    c.loop-name-test.true c.is_extension.ensures c.if-is_extension.true

pub loop-name-preserved : goal.loop-name-preserved
loop-name-preserved c =
    kind_not_found c.args.rows.now c.args.extension.now c.loop-name.name-index _ c.is_extension.result c.loop-name.invariant
    c.loop-name-test.true c.is_extension.ensures c.if-is_extension.false
