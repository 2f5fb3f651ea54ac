use Rattle.std.proofs.Common.{◌≡◌, drop}
use Rattle.std.specs.FinMap as map
use Rattle.std.specs.List.{find}
use Rattle.doc_server_config.specs.Overlaps.{paths_of}
use Rattle.doc_server_config.proofs.overlap.Marks.first_of.Given as goal

abbrev pub invariant-loop-page : goal.invariant-loop-page
invariant-loop-page l =
    find (map.contains_key l.self) (paths_of l.pages)
    ≡ find (map.contains_key l.self) (paths_of (drop l.page-index l.pages))
