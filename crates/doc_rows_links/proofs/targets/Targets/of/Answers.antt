use Rattle.doc_rows_links.proofs.TargetSteps.{next_target, no_targets}
use Rattle.doc_rows_links.proofs.targets.Targets.of.Goals as goal

pub loop-link-init : goal.loop-link-init
loop-link-init c = no_targets c.none-targets.result c.none-targets.ensures

pub loop-link-preserved : goal.loop-link-preserved
loop-link-preserved c =
    next_target c.args.links.now c.loop-link.link-index c.link-item.result c.loop-link.targets c.add.new.self c.loop-link-test.true
    c.link-item.is c.loop-link.invariant
    c.in_ok-add.ensures
