use Rattle.std.proofs.Common.{◌≡◌, take}
use Rattle.std.specs.List.{filter}
use Rattle.doc_index.specs.Held.{slot_at}
use Rattle.doc_words_search.specs.SearchSteps.{sees_at}
use Rattle.doc_words_search.proofs.search.seen_among.Given as goal

-- the slots so far
abbrev pub invariant-loop-slot : goal.invariant-loop-slot
invariant-loop-slot g l =
    l.seen.items ≡ filter (λ slot. sees_at (g.S.Sight.goals l.sight) (slot_at l.pages slot)) (take l.slot-index l.slots)
