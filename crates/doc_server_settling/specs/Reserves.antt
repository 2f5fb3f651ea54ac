-- The room that a journal keeps for records to come. All of this is this project's choice.
use Rattle.std.specs.Prelude.{◌≡◌, ◌≤◌, ℕ, ◌+◌, ◌*◌, ◌-◌, List, [], ◌∷◌, length, Bool, true, false, ◌&&◌, nat_le, Some, min}
use Rattle.doc_hub.specs.Worlds.{World}
use Rattle.doc_server_journal.specs.Journals.{record_beside}
use Rattle.doc_server_journal_records.specs.Records.{text_limit}
use Rattle.doc_server_script.specs.PageLines.{lines_of}
use Rattle.doc_server_listen.specs.Counting.{Counts, count_in}
use Rattle.doc_server_listen.specs.Edits.{Kept, has_room, longest_removal}
use Rattle.doc_store.specs.Store.{page_limit}
use Rattle.doc_store.specs.declared.site_edit.SiteEdit.{SiteEdit}

-- how much it keeps while puts are taken: for the largest record of a turn, and for a record with the removal of each page
unfoldable pub reserve : ℕ
reserve = 8 * 1048576 + 128 + 10000 * 1024

-- how much it keeps beyond that
unfoldable pub spare : ℕ
spare = 4 * 1048576

-- the room that is asked for by a look: so much more than there is, up to the reserve and the spare room
abbrev pub grown_room : ℕ → ℕ → ℕ
grown_room room growth = min (room + growth) (reserve + spare)

-- the room that a turn's lines take: where there is none no record is written
abbrev pub used : List ℕ → ℕ
used [] = 0
used (b ∷ text) = length (b ∷ text) + record_beside

-- how much a record with one removal takes at most
abbrev pub removal_most : ℕ
removal_most = longest_removal + record_beside

-- No more pages stand than may, and there is room for a record with the removal of each of them, and for one more.
abbrev pub HasRoomToRemove : ℕ → World → Type 0
HasRoomToRemove room w = (count_in w ≤ page_limit) × ((count_in w + 1) * removal_most ≤ room)

-- whether that is so where so many pages stand
abbrev pub takes_removals_of : ℕ → ℕ → Bool
takes_removals_of room pages = nat_le pages page_limit && nat_le ((pages + 1) * removal_most) room

abbrev pub takes_removals : ℕ → World → Bool
takes_removals room w = takes_removals_of room (count_in w)

-- the same, and the reserve while puts are taken
abbrev pub HasRoomFor : ℕ → World → Type 0
HasRoomFor room w = HasRoomToRemove room w × (w.takes_puts ≡ true → reserve ≤ room)

-- ---- laws

-- the lines of so many edits, in a turn that began with this room
abbrev pub lines_in : ℕ → List SiteEdit → Kept
lines_in room edits = record { lines = Some (lines_of edits); is_whole = true; most = min (room - record_beside) text_limit }

-- a turn that begins so has room for its first edit, whatever that is
abbrev pub TurnsHaveRoom : Type 0
TurnsHaveRoom = (room : ℕ) (w : World) → HasRoomFor room w → has_room (lines_in room []) w.takes_puts ≡ true

-- and where no puts are taken for each edit, behind whatever edits of a run of peers' events
abbrev pub RemovalsHaveRoom : Type 0
RemovalsHaveRoom = (room : ℕ) (w v : World) (edits : List SiteEdit) → HasRoomFor room w → Counts w v edits → w.takes_puts ≡ false
    → has_room (lines_in room edits) v.takes_puts ≡ true

-- whoever keeps the reserve has room to remove each page
abbrev pub ReserveIsEnough : Type 0
ReserveIsEnough = (room : ℕ) (w : World) → count_in w ≤ page_limit → reserve ≤ room → HasRoomToRemove room w
