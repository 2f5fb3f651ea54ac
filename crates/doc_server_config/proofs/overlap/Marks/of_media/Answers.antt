use Rattle.std.proofs.Common.{ap, ◌∙◌}
use Rattle.std.specs.FinMap as map
use Rattle.doc_server_config.proofs.OverlapSteps.{no_marks, medium_marked}
use Rattle.doc_server_config.proofs.overlap.Marks.of_media.Goals as goal

pub loop-medium-init : goal.loop-medium-init
loop-medium-init c = λ path. ap (λ marks. map.get marks path) c.none-marks.ensures ∙ no_marks path

pub loop-medium-preserved : goal.loop-medium-preserved
loop-medium-preserved c =
    medium_marked c.args.media.now c.loop-medium.medium-index c.medium-item.result c.in_ok-copy.field-0 c.loop-medium.marks c.add.new.self
    c.loop-medium-test.true c.medium-item.is c.in_ok-copy.ensures c.loop-medium.invariant c.in_ok-add.ensures
