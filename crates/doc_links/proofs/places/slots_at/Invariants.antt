use Rattle.std.proofs.Common.{◌≡◌, take}
use Rattle.std.specs.List.{flat_map}
use Rattle.doc_links_seen.specs.SeenSteps.{pages_at}
use Rattle.doc_links.specs.IndexSteps.{linked_at, without_counts}
use Rattle.doc_links.proofs.places.slots_at.Given as goal

-- the slots of the places so far
abbrev pub invariant-loop-place : goal.invariant-loop-place
invariant-loop-place l = pages_at l.pages l.slots.items ≡ flat_map (linked_at (without_counts l.pages)) (take l.place-index l.places)
