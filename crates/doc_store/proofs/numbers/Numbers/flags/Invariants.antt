use Rattle.std.proofs.Common.{◌≡◌, false, map as mapped, take}
use Rattle.std.specs.Prelude.{slice_index_or}
use Rattle.doc_store.proofs.numbers.Numbers.flags.Given as goal

-- the flags so far
abbrev pub invariant-loop-number : goal.invariant-loop-number
invariant-loop-number l = l.flags.items ≡ mapped (λ number. slice_index_or l.seen number false) (take l.number-index l.number-items)
