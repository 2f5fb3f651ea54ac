use Rattle.std.proofs.Common.{◌≡◌, drop}
use Rattle.std.specs.FinMap as map
use Rattle.std.specs.List.{find}
use Rattle.doc_server_config.specs.Overlaps.{media_paths}
use Rattle.doc_server_config.specs.OverlapSteps.{is_again}
use Rattle.doc_server_config.proofs.overlap.Marks.first_medium_again.Given as goal

abbrev pub invariant-loop-medium : goal.invariant-loop-medium
invariant-loop-medium l =
    find (λ path. is_again (map.get l.self path)) (media_paths l.media)
    ≡ find (λ path. is_again (map.get l.self path)) (media_paths (drop l.medium-index l.media))
