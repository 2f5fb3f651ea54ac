use Rattle.std.proofs.Common.{◌≡◌, ◌+◌, ℕ}
use Rattle.std.specs.Prelude.{slice_index_or}
use Rattle.doc_links_seen.proofs.NamedSteps.{IsGoneBut}
use Rattle.doc_links_seen.proofs.named.Named.leave.Given as goal

-- nothing leads where it didn't lead before, and no anchor of the page to the slot but those that are left
abbrev pub invariant-loop-number : goal.invariant-loop-number
invariant-loop-number l =
    ((n stand : ℕ) → slice_index_or l.self.slots.items n 0 ≡ stand + 1 → slice_index_or l.fn.self.slots.items n 0 ≡ stand + 1)
    × IsGoneBut l.page.anchors l.self.slots.items l.slot l.number-iterator
