use Rattle.std.proofs.Common.{◌≡◌, ◌+◌, ◌-◌, ℕ, vec_len}
use Rattle.std.specs.Prelude.{slice_index_or}
use Rattle.doc_links_seen.proofs.named.Named.make_room.Given as goal

-- no number leads elsewhere
abbrev pub invariant-room : goal.invariant-room
invariant-room l = (n : ℕ) → slice_index_or l.self.slots.items n 0 ≡ slice_index_or l.fn.self.slots.items n 0

abbrev pub decreases-room : goal.decreases-room
decreases-room l = (l.number + 1) - vec_len l.self.slots
