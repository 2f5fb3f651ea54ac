use Rattle.std.proofs.Common.{◌≡◌, ◌+◌}
use Rattle.std.specs.Prelude.{sum_by}
use Rattle.std.specs.FinMap as map
use Rattle.doc_store.specs.GroupSets.{met_at, slot_at}
use Rattle.doc_store.proofs.group_sets.GroupSets.count_met.Given as goal

-- those counted so far, and those of the sets that are left
abbrev pub invariant-loop-number : goal.invariant-loop-number
invariant-loop-number l =
    l.count + sum_by (λ number. met_at l.groups (slot_at l.self number)) l.number-iterator
    ≡ sum_by (λ number. met_at l.groups (slot_at l.self number)) (map.values l.self.numbers)
