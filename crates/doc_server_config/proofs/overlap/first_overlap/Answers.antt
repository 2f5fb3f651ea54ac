use Rattle.doc_server_config.specs.Overlaps.{paths_of}
use Rattle.doc_server_config.proofs.OverlapSteps.{first_behind}
use Rattle.doc_server_config.proofs.overlap.first_overlap.Goals as goal

pub returns : goal.returns
returns c =
    first_behind (paths_of c.args.rows.now) (paths_of c.args.others.now) c.in_ok-marks.marks _ c.in_ok-marks.ensures
    c.in-None.ensures c.first_again.ensures
