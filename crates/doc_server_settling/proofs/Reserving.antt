-- A journal that keeps its reserve has room for each turn.
use Rattle.std.proofs.Common.{◌≡◌, ◌≤◌, ◌+◌, ◌-◌, ◌*◌, ℕ, List, length, min, Bool, true, false, refl, ap, ◌∙◌, arith}
use Rattle.std.specs.Prelude.{nat_le}
use Rattle.std.proofs.lemmas.Bool.Decides.{nat_tests}
use Rattle.doc_store.specs.Store as store
use Rattle.doc_store.specs.Store.{page_limit}
use Rattle.doc_store.specs.declared.site_edit.SiteEdit.{SiteEdit}
use Rattle.doc_server_journal.specs.Journals.{record_beside}
use Rattle.doc_server_journal_records.specs.Records.{text_limit}
use Rattle.doc_server_script.specs.LineLengths.{longest_line}
use Rattle.doc_server_script.specs.PageLines.{lines_of}
use Rattle.doc_server_listen.specs.Counting.{count_in}
use Rattle.doc_server_listen.specs.Edits.{has_room, longest, longest_removal}
use Rattle.doc_server_settling.specs.Reserves.{RemovalsHaveRoom, ReserveIsEnough, TurnsHaveRoom, lines_in}
use Rattle.doc_server_settling.specs.Reserves.{removal_most, reserve}

-- ---- the first step of a turn

yes : (n m : ℕ) → n ≤ m → nat_le n m ≡ true
yes n m le = grind (arith, nat_tests)

line_fits : (room : ℕ) → reserve ≤ room → longest_line ≤ min (room - record_beside) text_limit
unfolding reserve longest_line text_limit store.text_limit
line_fits room le = omega (arith, le)

removal_fits : (room count : ℕ) → (count + 1) * removal_most ≤ room → longest_removal ≤ min (room - record_beside) text_limit
unfolding longest_removal text_limit
removal_fits room count le = omega (arith, le)

pub turns_have_room : TurnsHaveRoom
turns_have_room room w (enough, reserved) = yes (0 + longest w.takes_puts) (min (room - record_beside) text_limit) (by w.takes_puts refl)
  where
    by : (t : Bool) → w.takes_puts ≡ t → 0 + longest t ≤ min (room - record_beside) text_limit
    by true on = omega (arith, line_fits room (reserved on))
    by false off = omega (arith, removal_fits room (count_in w) enough.1)

-- ---- each step of a turn that takes no puts

more_fits : (room before after : ℕ) (edits : List SiteEdit) → before ≤ page_limit → (before + 1) * removal_most ≤ room
    → after + length edits ≡ before → length (lines_of edits) ≤ longest_removal * length edits
    → length (lines_of edits) + longest_removal ≤ min (room - record_beside) text_limit
unfolding longest_removal text_limit page_limit
more_fits room before after edits limit enough removes short = omega (arith, limit, enough, removes, short)

pub removals_have_room : RemovalsHaveRoom
removals_have_room room w v edits ((limit, before), reserved) counts off =
    ap (λ takes. has_room (lines_in room edits) takes) (counts.taking ∙ off)
    ∙ yes (length (lines_of edits) + longest_removal) (min (room - record_beside) text_limit)
    (more_fits room (count_in w) (count_in v) edits limit before (counts.removes off) (counts.short off))

pub reserve_is_enough : ReserveIsEnough
unfolding reserve longest_removal page_limit
reserve_is_enough room w limit le = (limit, omega (arith, limit, le))
