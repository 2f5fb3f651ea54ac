use Rattle.std.proofs.Common.{◌≡◌, IfOk, subst}
use Rattle.doc_server_config.specs.Overlaps.{paths_of}
use Rattle.doc_server_config.proofs.ReadmeSteps.{free_by_marks}
use Rattle.doc_server_config.proofs.readme.free_moves.Goals as goal

pub returns : goal.returns
returns c =
    subst (λ wanted. IfOk c.free_by.result (λ free. free.items ≡ wanted))
    (free_by_marks (paths_of c.args.pages.now) c.in_ok-marks.marks c.args.moves.items c.in_ok-marks.ensures) c.free_by.ensures
