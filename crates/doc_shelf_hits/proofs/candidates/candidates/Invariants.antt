use Rattle.std.proofs.Common.{◌≡◌, take}
use Rattle.std.specs.Prelude.{map as mapped}
use Rattle.std.specs.List.{flat_map}
use Rattle.doc_shelf_pages.specs.Shelves.{IsKept}
use Rattle.doc_shelf_pages.specs.Views.{Renders}
use Rattle.doc_shelf_hits.proofs.CandidateSteps.{known_in}
use Rattle.doc_shelf_hits.specs.Candidates.{known_of}
use Rattle.doc_shelf_hits.proofs.candidates.candidates.Given as goal

-- what is known so far is of the paths so far
abbrev pub invariant-paths : goal.invariant-paths
invariant-paths l =
    (render : Renders) → IsKept render l.store l.kept
    → mapped known_of l.all.items ≡ flat_map (known_in render l.store l.reader l.terms) (take l.path-index l.path-items)
