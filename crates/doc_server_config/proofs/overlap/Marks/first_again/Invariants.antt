use Rattle.std.proofs.Common.{◌≡◌, drop}
use Rattle.std.specs.FinMap as map
use Rattle.std.specs.List.{find}
use Rattle.doc_server_config.specs.Overlaps.{paths_of}
use Rattle.doc_server_config.specs.OverlapSteps.{is_again}
use Rattle.doc_server_config.proofs.overlap.Marks.first_again.Given as goal

abbrev pub invariant-loop-page : goal.invariant-loop-page
invariant-loop-page l =
    find (λ path. is_again (map.get l.self path)) (paths_of l.pages)
    ≡ find (λ path. is_again (map.get l.self path)) (paths_of (drop l.page-index l.pages))
