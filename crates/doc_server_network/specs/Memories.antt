-- What contracts see of a network in memory.
use Rattle.std.specs.Prelude.{◌≡◌, ⊤, ℕ, ◌==◌, ◌+◌, ◌-◌, List, [], ◌∷◌, length, take, drop, min, Bool, true, false, not, ◌&&◌, ◌||◌, if◌then◌else◌}
use Rattle.std.specs.Prelude.{Option, Some, None, option_map, Result, Ok, Err, ◌⊎◌}
use Rattle.std.specs.BTreeMap as tree
use Rattle.std.specs.Ordering.{nat_cmp}
use Rattle.doc_server_network.specs.declared.accepted.Accepted.{Accepted}
use Rattle.doc_server_network.specs.declared.accepted.Accepted.TheVariants as accepts
use Rattle.doc_server_network.specs.declared.came.Came.{Came}
use Rattle.doc_server_network.specs.declared.came.Came.TheVariants.{Bytes, Nothing, End}
use Rattle.doc_server_network.specs.declared.guest.Guest.{Guest}
use Rattle.doc_server_network.specs.declared.guest.Guest.TheVariants as guests
use Rattle.doc_server_network.specs.declared.line.Line.{Line}
pub use Rattle.doc_server_network.specs.declared.memory_network.MemoryNetwork.{MemoryNetwork}
use Rattle.doc_server_network.specs.declared.net_fault.NetFault.{NetFault}
use Rattle.doc_server_network.specs.declared.script.Script.{Script}
use Rattle.doc_server_network.specs.declared.told.Told.{Told}
use Rattle.doc_server_network.specs.declared.told.Told.TheVariants as tolds

-- ---- a connection

-- what came on a connection: the front of what its peer sends; what comes still; and what was handed over there
abbrev pub came_on : Line → List ℕ
came_on l = take l.at l.script.input

abbrev pub comes_on : Line → List ℕ
comes_on l = drop l.at l.script.input

abbrev pub gone_on : Line → List ℕ
gone_on l = l.output.items

-- the next call fails: the connection was let go, or no call is left that goes well
abbrev pub breaks : Line → Bool
breaks l = l.is_closed || l.script.calls == 0

-- the next call moves no byte yet
abbrev pub is_pause : Line → Bool
is_pause l = l.script.pauses && not l.is_paused

-- what a read gives into a buffer of this room: the next piece, or what stands behind the last
abbrev pub piece_into : ℕ → Line → ℕ
piece_into room l = min (min l.script.piece (length (comes_on l))) room

abbrev pub behind_all : Line → Came
behind_all l = if l.script.ends then End else Nothing

abbrev pub reads : ℕ → Line → Came
reads room l = if is_pause l then Nothing else if length (comes_on l) == 0 then behind_all l else Bytes (piece_into room l)

-- how many of so many bytes a write takes
abbrev pub writes : ℕ → Line → ℕ
writes count l = if is_pause l then 0 else min l.script.budget count

-- the connection once a call went well, but for what that moved; once nothing comes any more, or a call has failed; and behind a read
abbrev pub called : Line → Line
called l = record l { is_paused = is_pause l; script = record l.script { calls = l.script.calls - 1 } }

abbrev pub over : Line → Line
over l = record l { is_over = true }

abbrev pub behind_read : Result Came NetFault → Line → Line
behind_read (Ok (Bytes count)) l = record (called l) { at = l.at + count }
behind_read (Ok Nothing) l = called l
behind_read (Ok End) l = over (called l)
behind_read (Err e) l = over l

-- one of which a write took bytes is as it was called, but for its output; one that failed is over
abbrev pub IsBehindWrite : Result ℕ NetFault → Line → Line → Type 0
IsBehindWrite (Ok count) l m = record m { output = l.output } ≡ called l
IsBehindWrite (Err e) l m = record m { output = l.output } ≡ over (if breaks l then l else called l)

-- the same of one that stands, where the write didn't fail
abbrev pub IsCalled : Option Line → Option Line → Type 0
IsCalled (Some l) (Some m) = record m { output = l.output } ≡ called l
IsCalled l m = ⊥

-- ended, and let go
abbrev pub ended : Line → Line
ended l = record l { has_ended = true }

abbrev pub let_go : Line → Line
let_go l = record l { is_closed = true }

-- nothing has passed on the connection of this script, which stands
abbrev pub IsBegun : Script → Line → Type 0
IsBegun script l =
    (l.script ≡ script) × (l.at ≡ 0) × (gone_on l ≡ []) × (l.is_paused ≡ false) × (l.has_ended ≡ false) × (l.is_closed ≡ false)
    × (l.is_over ≡ false)

-- ---- a network, by the numbers of its connections

abbrev pub line_at : MemoryNetwork → ℕ → Option Line
line_at m k = tree.get nat_cmp m.lines k

-- what came and went under a number, where nothing has passed without a connection
abbrev pub came_at : Option Line → List ℕ
came_at None = []
came_at (Some l) = came_on l

abbrev pub gone_at : Option Line → List ℕ
gone_at None = []
gone_at (Some l) = gone_on l

abbrev pub memory_came : MemoryNetwork → ℕ → Option (List ℕ)
memory_came m k = Some (came_at (line_at m k))

abbrev pub memory_gone : MemoryNetwork → ℕ → Option (List ℕ)
memory_gone m k = Some (gone_at (line_at m k))

-- the number has had no connection; or it has one that is so
abbrev pub has_none : MemoryNetwork → ℕ → Type 0
has_none m k = line_at m k ≡ None

abbrev pub has_one : (Line → Bool) → Option Line → Bool
has_one is None = false
has_one is (Some l) = is l

abbrev pub HasLine : (Line → Type 0) → Option Line → Type 0
HasLine P None = ⊥
HasLine P (Some l) = P l

-- no connection stands there, or it has said that it has ended
abbrev pub ended_at : Option Line → Type 0
ended_at None = ⊤
ended_at (Some l) = l.is_over ≡ true

abbrev pub memory_ended : MemoryNetwork → ℕ → Type 0
memory_ended m k = ended_at (line_at m k)

-- what a read or a write gives there, where the call doesn't fail
abbrev pub calls_at : {X : Type 0} → (Line → X) → Option Line → Option X
calls_at call None = None
calls_at call (Some l) = if breaks l then None else Some (call l)

-- the connection of that number was changed so, where one stands, and no other
abbrev pub Changes : ℕ → (Line → Line) → MemoryNetwork → MemoryNetwork → Type 0
Changes id change old new =
    (line_at new id ≡ option_map change (line_at old id)) × ((k : ℕ) → (k ≡ id → ⊥) → line_at new k ≡ line_at old k)

-- ---- who waits at its door, and what it tells of

abbrev pub guests_of : MemoryNetwork → List Guest
guests_of m = m.guests.items

abbrev pub waits_of : MemoryNetwork → ℕ
waits_of m = m.waits

-- the numbers that will be told of, and those of them that this wait tells of
abbrev pub waking_of : MemoryNetwork → List ℕ
waking_of m = m.waking.items

abbrev pub due_numbers : MemoryNetwork → List ℕ
due_numbers m = take m.due m.waking.items

-- the number is among these
abbrev pub is_among : ℕ → List ℕ → Bool
is_among k [] = false
is_among k (n ∷ numbers) = n == k || is_among k numbers

-- its connection will be told of
abbrev pub memory_wakes : MemoryNetwork → ℕ → Type 0
memory_wakes m k = is_among k m.waking.items ≡ true

-- a wait finds the door, where somebody waits there, the end of standard input, where none is left, and all numbers that wake
abbrev pub waited : MemoryNetwork → MemoryNetwork
waited m = record m {
  waits = m.waits - 1;
  is_ending = m.waits - 1 == 0;
  is_knocked = not (length m.guests.items == 0);
  due = length m.waking.items;
}

-- what is told next: of the door, of the end of standard input, and of the numbers that are due
abbrev pub told_first : MemoryNetwork → List ℕ → Option Told
told_first m [] = None
told_first m (id ∷ numbers) = Some (tolds.Connection id (has_one breaks (line_at m id)))

abbrev pub told_next : MemoryNetwork → Option Told
told_next m =
    if m.is_knocked then Some tolds.Door else if m.is_ending then Some tolds.InputEnds else told_first m (due_numbers m)

-- what a wait has found and isn't told yet
pub record Found : Type 0 where
  pub door : Bool
  pub input_ends : Bool
  pub numbers : List ℕ

abbrev pub found : MemoryNetwork → Found
found m = record { door = m.is_knocked; input_ends = m.is_ending; numbers = due_numbers m }

-- the same without what is told next
abbrev pub without_next : Found → Found
without_next f =
    if f.door then record f { door = false }
    else if f.input_ends then record f { input_ends = false }
    else record f { numbers = drop 1 f.numbers }

-- nothing is left of what this wait has found
abbrev pub IsAllTold : MemoryNetwork → Type 0
IsAllTold m = found m ≡ record { door = false; input_ends = false; numbers = [] }

-- what accepting the first of these comes to; a peer fails where memory is lacking for it
abbrev pub IsAcceptedOf : List Guest → Accepted → Type 0
IsAcceptedOf [] a = a ≡ accepts.Nobody
IsAcceptedOf (guests.Leaves ∷ rest) a = a ≡ accepts.Failed
IsAcceptedOf (guests.Waits ∷ rest) a = a ≡ accepts.Rests
IsAcceptedOf (guests.Peer script ∷ rest) a = (a ≡ accepts.Peer) ⊎ (a ≡ accepts.Failed)

-- the first of them is a peer, whose connection this is
abbrev pub IsLineOf : List Guest → Option Line → Type 0
IsLineOf (guests.Peer script ∷ rest) line = HasLine (IsBegun script) line
IsLineOf others line = ⊥

-- a call leaves who waits, and how many waits are left; or all but these guests; or all but the connections
abbrev pub KeepsDoor : MemoryNetwork → MemoryNetwork → Type 0
KeepsDoor old new = (guests_of new ≡ guests_of old) × (waits_of new ≡ waits_of old)

abbrev pub IsSameButGuests : MemoryNetwork → MemoryNetwork → Type 0
IsSameButGuests old new = record new { guests = old.guests } ≡ old

abbrev pub IsSameButLines : MemoryNetwork → MemoryNetwork → Type 0
IsSameButLines old new = record new { lines = old.lines } ≡ old

-- nothing has passed under the number, and it is free
abbrev pub IsUntouched : MemoryNetwork → ℕ → Type 0
IsUntouched m k = has_none m k × (memory_came m k ≡ Some []) × (memory_gone m k ≡ Some [])

-- nobody waits, nothing will be told of, and so many waits are left
abbrev pub IsNew : ℕ → MemoryNetwork → Type 0
IsNew waits m = (guests_of m ≡ []) × (waking_of m ≡ []) × IsAllTold m × (waits_of m ≡ waits)
