use Rattle.std.proofs.Common.{◌≡◌, ◌++◌}
use Rattle.std.specs.List.{filter}
use Rattle.std.specs.Vec.Iter.{into_iter_items}
use Rattle.doc_server_config.specs.OverlapSteps.{is_free_in}
use Rattle.doc_server_config.proofs.readme.free_by.Given as goal

-- the free ones so far, and those of the moves that are left
abbrev pub invariant-loop-one : goal.invariant-loop-one
invariant-loop-one l =
    l.free.items ++ filter (is_free_in l.marks) (into_iter_items l.one-iterator) ≡ filter (is_free_in l.marks) l.fn.moves.items
