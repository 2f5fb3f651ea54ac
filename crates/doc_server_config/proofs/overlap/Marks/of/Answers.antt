use Rattle.std.proofs.Common.{ap, ◌∙◌}
use Rattle.std.specs.FinMap as map
use Rattle.doc_server_config.proofs.OverlapSteps.{no_marks, page_marked}
use Rattle.doc_server_config.proofs.overlap.Marks.of.Goals as goal

pub loop-page-init : goal.loop-page-init
loop-page-init c = λ path. ap (λ marks. map.get marks path) c.none-marks.ensures ∙ no_marks path

pub loop-page-preserved : goal.loop-page-preserved
loop-page-preserved c =
    page_marked c.args.pages.now c.loop-page.page-index c.page-item.result c.in_ok-copy.field-0 c.loop-page.marks c.add.new.self
    c.loop-page-test.true c.page-item.is c.in_ok-copy.ensures c.loop-page.invariant c.in_ok-add.ensures
