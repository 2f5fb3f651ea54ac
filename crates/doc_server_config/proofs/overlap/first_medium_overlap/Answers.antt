use Rattle.doc_server_config.specs.Overlaps.{media_paths, paths_of}
use Rattle.doc_server_config.proofs.OverlapSteps.{first_behind}
use Rattle.doc_server_config.proofs.overlap.first_medium_overlap.Goals as goal

pub returns : goal.returns
returns c =
    first_behind (paths_of c.args.rows.now) (media_paths c.args.media.now) c.in_ok-media_marks.media_marks _ c.in_ok-media_marks.ensures
    c.in-None.ensures c.first_medium_again.ensures
