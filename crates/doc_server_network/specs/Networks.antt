-- What the calls of a network do to the bytes of its connections, by their numbers.
use Rattle.std.specs.Prelude.{◌≡◌, ◌<◌, ⊤, ℕ, List, [], Bool, true, ◌==◌, Option, Some, Result, Ok, Err, if◌then◌else◌}
use Rattle.std.specs.Io.KnownBytes.{append_known}
use Rattle.doc_server_network.specs.declared.accepted.Accepted.{Accepted}
use Rattle.doc_server_network.specs.declared.accepted.Accepted.TheVariants as accepts
use Rattle.doc_server_network.specs.declared.came.Came.{Came}
use Rattle.doc_server_network.specs.declared.came.Came.TheVariants as cames
use Rattle.doc_server_network.specs.declared.net_fault.NetFault.{NetFault}
use Rattle.doc_server_network.specs.declared.told.Told.{Told}
use Rattle.doc_server_network.specs.declared.told.Told.TheVariants as tolds

-- how many bytes a read gave, and how many a write took: one that failed none
abbrev pub came_len : Result Came NetFault → ℕ
came_len (Ok (cames.Bytes n)) = n
came_len other = 0

abbrev pub took_len : Result ℕ NetFault → ℕ
took_len (Ok n) = n
took_len (Err e) = 0

-- these bytes on the connection of that number, and none on another
abbrev pub on : ℕ → List ℕ → ℕ → List ℕ
on id bytes k = if k == id then bytes else []

-- on the connection of that number these bytes more have passed, and none on another, where that is known
abbrev pub Moves : (ℕ → Option (List ℕ)) → (ℕ → Option (List ℕ)) → ℕ → List ℕ → Type 0
Moves old new id bytes = (k : ℕ) → new k ≡ append_known (old k) (on id bytes k)

-- nothing has passed
abbrev pub Rests : (ℕ → Option (List ℕ)) → (ℕ → Option (List ℕ)) → Type 0
Rests old new = (k : ℕ) → new k ≡ old k

-- nothing has passed but on that connection
abbrev pub RestsBut : ℕ → (ℕ → Option (List ℕ)) → (ℕ → Option (List ℕ)) → Type 0
RestsBut id old new = (k : ℕ) → (k ≡ id → ⊥) → new k ≡ old k

-- what was told is that a connection of this number may go on
abbrev pub TellsOf : Option Told → ℕ → Type 0
TellsOf (Some (tolds.Connection id is_gone)) k = k ≡ id
TellsOf other k = ⊥

-- what was told is that the peer of this number is gone
abbrev pub TellsLoss : Option Told → ℕ → Type 0
TellsLoss (Some (tolds.Connection id is_gone)) k = (k ≡ id) × (is_gone ≡ true)
TellsLoss other k = ⊥

-- what holds of a number still does, or of each number but that one
abbrev pub Stays : (ℕ → Type 0) → (ℕ → Type 0) → Type 0
Stays old new = (k : ℕ) → old k → new k

abbrev pub StaysBut : ℕ → (ℕ → Type 0) → (ℕ → Type 0) → Type 0
StaysBut id old new = (k : ℕ) → (k ≡ id → ⊥) → old k → new k

-- A call of a network, with the number of its connection and what it answered.
pub data Call : Type 0 where
  Waits : Result ⊤ NetFault → Call
  Tells : Option Told → Call
  Accepts : ℕ → Accepted → Call
  Reads : ℕ → Result Came NetFault → Call
  Writes : ℕ → Result ℕ NetFault → Call
  Ends : ℕ → Bool → Call
  Closes : ℕ → Call

-- each call that was made before was made behind it
abbrev pub Recalls : (Call → Type 0) → (Call → Type 0) → Type 0
Recalls old new = (c : Call) → old c → new c

-- the network has told that standard input has ended
abbrev pub end_of_input : Call
end_of_input = Tells (Some tolds.InputEnds)

-- the network has told that something has come there
abbrev pub input_came : Call
input_came = Tells (Some tolds.Input)

-- it was waited for
abbrev pub WasWaitedFor : (Call → Type 0) → Type 0
WasWaitedFor made = (r : Result ⊤ NetFault) × made (Waits r)

-- it was asked for a peer, under a number above this one
abbrev pub WasAsked : ℕ → (Call → Type 0) → Type 0
WasAsked given made = (id : ℕ) × (a : Accepted) × (given < id) × made (Accepts id a)

-- it has answered that nobody waits, under a number above this one
abbrev pub HasNobody : ℕ → (Call → Type 0) → Type 0
HasNobody given made = (id : ℕ) × (given < id) × made (Accepts id accepts.Nobody)
