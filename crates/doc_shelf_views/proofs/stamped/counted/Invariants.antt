use Rattle.std.proofs.Common.{◌≡◌, take}
use Rattle.std.specs.Prelude.{map as mapped}
use Rattle.doc_shelf_views.proofs.stamped.counted.Given as goal
use Rattle.doc_shelf_views.specs.Sources.{counted_at}
use Rattle.doc_store_readers.specs.Sites.{goal_in}

-- the pages so far
abbrev pub invariant-loop-place : goal.invariant-loop-place
invariant-loop-place l = l.sources.items ≡ mapped (counted_at (goal_in l.sight) l.target l.index) (take l.place-index l.places)
