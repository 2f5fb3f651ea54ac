use Rattle.std.proofs.Common.{◌≡◌, take}
use Rattle.std.specs.List.{flat_map}
use Rattle.doc_shelf_views.proofs.stamped.stamped.Given as goal
use Rattle.doc_shelf_views.specs.Sources.{stamped_at}

-- those of the texts so far
abbrev pub invariant-loop-text : goal.invariant-loop-text
invariant-loop-text l = l.places.items ≡ flat_map (stamped_at l.store) (take l.text-index l.texts)
