use Rattle.std.proofs.Common.{◌≡◌, ℕ, Bool, Bor}
use Rattle.std.specs.Prelude.{map as mapped}
use Rattle.doc_words_search.specs.SearchSteps.{with_flag}
use Rattle.doc_words_search.proofs.flagging.slots_flagged.Given as goal

-- the slots so far
abbrev pub invariant-loop-slot : goal.invariant-loop-slot
invariant-loop-slot l = l.seen.items ≡ with_flag (mapped (λ (one : Bor ℕ × Bor Bool). (one.0.now, one.1.now)) l.yielded)
