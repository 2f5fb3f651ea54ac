use Rattle.std.proofs.Common.{◌≡◌, ◌+◌, ◌-◌, ℕ, vec_len}
use Rattle.doc_links_seen.specs.Numbered.{numbers_at}
use Rattle.doc_links.proofs.numbering.make_room.Given as goal

-- no slot has other numbers
abbrev pub invariant-room : goal.invariant-room
invariant-room l = (i : ℕ) → numbers_at l.numbers.items i ≡ numbers_at l.fn.numbers.items i

abbrev pub decreases-room : goal.decreases-room
decreases-room l = (l.slot + 1) - vec_len l.numbers
